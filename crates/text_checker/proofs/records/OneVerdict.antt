-- of a record that spells a run nothing else is said
use Rattle.std.proofs.Common.{◌≡◌, ℕ, List, [], ◌∷◌, ◌++◌, length, refl, sym, ap, ◌∙◌, subst, inl, inr, arith, length-append}
use Rattle.text_checker.proofs.Common.{WorldKind, RenameTerms, PoolStart, Header, Version, Line, pool_start, Verdict, terms_of, AreLinesOfRun, IsEventLine, IsHeaderLine, SpellRun, IsFaultyRow, IsBadRow, IsSaidOfRows, IsSaidAfter, LacksHeader, IsSaid}
use Rattle.model_asked.specs.Config.{is_tree, numbers_in}
use Rattle.text_checker.specs.declared.verdict.Verdict.TheVariants.{Yes, No, BadRecord, NoMemory}
use Rattle.text_records.specs.Records.{AreRead, AreSame}
use Rattle.text_records.proofs.cited.Once.{line_once, header_once}
use Rattle.text_checker.proofs.Runs.{at_fault}

module _ (kind : WorldKind) (version : Version) where
  -- the lines that rows are read as begin with those that their front is
  read_on : (before : List (List ℕ)) (row : List ℕ) (more : List (List ℕ)) (lines front : List Line) (l : Line) → AreRead kind version (before ++ row ∷ more) lines → AreRead kind version before front → IsEventLine kind version row l →
      (rest : List Line) × (lines ≡ front ++ l ∷ rest)
  read_on [] row more [] [] l r f says = absurd r
  read_on [] row more (k ∷ ks) [] l r f says = (ks, ap (λ (x : Line). x ∷ ks) (line_once kind version row k l r.0 says))
  read_on [] row more lines (m ∷ ms) l r f says = absurd f
  read_on (x ∷ xs) row more lines [] l r f says = absurd f
  read_on (x ∷ xs) row more [] (m ∷ ms) l r f says = absurd r
  read_on (x ∷ xs) row more (k ∷ ks) (m ∷ ms) l r f says =
      let rest = read_on xs row more ks ms l r.1 f.1 says in
      let first : k ≡ m = line_once kind version x k m r.0 f.0 in
      let others = rest.1 in
      (rest.0, λ i. first i ∷ others i)

  -- each row is read
  read_there : (before : List (List ℕ)) (row : List ℕ) (more : List (List ℕ)) (lines : List Line) → AreRead kind version (before ++ row ∷ more) lines → (l : Line) × IsEventLine kind version row l
  read_there [] row more [] r = absurd r
  read_there [] row more (k ∷ ks) r = (k, r.0)
  read_there (x ∷ xs) row more [] r = absurd r
  read_there (x ∷ xs) row more (k ∷ ks) r = read_there xs row more ks r.1

-- where rows spell a run, no row is at fault and none is bad
module _ (h : Header) (rows : List (List ℕ)) (s : SpellRun h rows) where
  no_fault : (number : ℕ) (why : _) → IsFaultyRow h rows number why → ⊥
  no_fault number why f =
      let read : AreRead h.config.world h.version (f.before ++ f.row ∷ f.after) s.lines = subst (λ (x : List (List ℕ)). AreRead h.config.world h.version x s.lines) (sym f.is) s.read in
      let k = read_on h.config.world h.version f.before f.row f.after s.lines f.lines f.line read f.read f.says in
      at_fault (terms_of h.config) (pool_start h.config) f.lines f.line k.0 why f.fault (subst (λ (x : List Line). AreLinesOfRun (terms_of h.config) (pool_start h.config) x) k.1 s.run)

  none_bad : (number : ℕ) → IsBadRow h rows number → ⊥
  none_bad number b =
      let k = read_there h.config.world h.version b.before b.row b.after s.lines (subst (λ (x : List (List ℕ)). AreRead h.config.world h.version x s.lines) (sym b.is) s.read) in
      let few = s.few in
      let many : length (b.before ++ b.row ∷ b.after) ≡ length rows = ap length b.is in
      let parts = length-append b.before (b.row ∷ b.after) in
      b.bad (omega arith) k.0 k.1

  only_yes : (v : Verdict) → IsSaidOfRows h rows v → v ≡ Yes
  only_yes Yes said = refl
  only_yes (No number why) said = absurd (no_fault number why said)
  only_yes (BadRecord number) said = absurd (none_bad number said)
  only_yes NoMemory said = absurd said

-- and what rows spell for one header they spell for another of the same version and numbers
spelled_too : (g h : Header) (rows : List (List ℕ)) → AreSame g h → SpellRun g rows → SpellRun h rows
spelled_too g h rows e s =
    let version = e.version in
    let world = e.world in
    let m = e.m in
    let limit = e.limit in
    let terms : terms_of g.config ≡ terms_of h.config = λ i. record { most = m i; limit = limit i; grows = is_tree (world i) } in
    let k = e.k in
    let start : pool_start g.config ≡ pool_start h.config = λ i. record { most = numbers_in (world i); size = k i } in
    record {
      lines = s.lines;
      read = subst (λ (x : Version). AreRead h.config.world x rows s.lines) version (subst (λ (x : WorldKind). AreRead x g.version rows s.lines) world s.read);
      few = s.few;
      run = subst (λ (x : PoolStart). AreLinesOfRun (terms_of h.config) x s.lines) start (subst (λ (x : RenameTerms). AreLinesOfRun x (pool_start g.config) s.lines) terms s.run);
    }

first_same : (a b : List ℕ) (xs ys : List (List ℕ)) → a ∷ xs ≡ b ∷ ys → (a ≡ b) × (xs ≡ ys)
first_same a b xs ys e = (cc, cc)

pub one_verdict : (lines : List (List ℕ)) → IsSaidAfter lines Yes → (v : Verdict) → IsSaid lines v → v ≡ Yes
one_verdict lines s v (inl t) =
    let parts = first_same s.head t.head s.rows t.rows (sym s.is ∙ t.is) in
    let same = header_once t.head s.header t.header (subst (λ (x : List ℕ). IsHeaderLine x s.header) parts.0 s.says) t.says in
    only_yes t.header t.rows (spelled_too s.header t.header t.rows same (subst (λ (x : List (List ℕ)). SpellRun s.header x) parts.1 s.said)) v t.said
one_verdict lines s v (inr t) = absurd (subst (λ (x : List (List ℕ)). LacksHeader x) s.is t.1 s.header s.says)
