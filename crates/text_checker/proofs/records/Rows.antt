-- the lines of a record, one after the other
use Rattle.std.proofs.Common.{◌≡◌, ℕ, suc, ◌+◌, ◌<◌, ◌≤◌, List, [], ◌∷◌, ◌++◌, length, Option, Some, None, sym, ap, ◌∙◌, subst, arith, length-append, append_assoc, refl}
use Rattle.text_checker.proofs.Common.{append-nil, WorldKind, Checker, Header, Version, pool_start, Line, Reason, terms_of, HasTaken, TakesOn, TakesMore, IsEventLine, AreRead, RowsSoFar, TakesRow, SpellRun, IsFaultyRow, IsBadRow}
use Rattle.text_checker.proofs.Runs.{follows_run}

pub read_more : (kind : WorldKind) (version : Version) (rows : List (List ℕ)) (lines : List Line) (row : List ℕ) (l : Line) → AreRead kind version rows lines → IsEventLine kind version row l → AreRead kind version (rows ++ row ∷ []) (lines ++ l ∷ [])
read_more kind version [] [] row l r e = (e, tt)
read_more kind version [] (m ∷ ms) row l r e = absurd r
read_more kind version (x ∷ xs) [] row l r e = absurd r
read_more kind version (x ∷ xs) (m ∷ ms) row l r e = (r.0, read_more kind version xs ms row l r.1 e)

-- as many rows are read as lines
pub read_length : (kind : WorldKind) (version : Version) (rows : List (List ℕ)) (ls : List Line) → AreRead kind version rows ls → length rows ≡ length ls
read_length kind version [] [] r = refl
read_length kind version [] (l ∷ ls) r = absurd r
read_length kind version (row ∷ rows) [] r = absurd r
read_length kind version (row ∷ rows) (l ∷ ls) r = ap suc (read_length kind version rows ls r.1)

-- none was read yet
abbrev pub no_row : (h : Header) (rows : List (List ℕ)) (checker : Checker) → HasTaken (terms_of h.config) (pool_start h.config) [] checker → RowsSoFar h rows rows checker 2
no_row h rows checker t = record { before = []; lines = []; is = refl; read = tt; many = refl; few = omega arith; taken = t; at = refl }

module _ {h : Header} {rows : List (List ℕ)} {checker : Checker} {number : ℕ} where
  abbrev pub all_rows : RowsSoFar h rows [] checker number → SpellRun h rows
  all_rows s = record {
    lines = s.lines;
    read = subst (λ (x : List (List ℕ)). AreRead h.config.world h.version x s.lines) whole s.read;
    few = subst (λ (x : List (List ℕ)). length x ≤ 1000000) whole s.few;
    run = follows_run (terms_of h.config) (pool_start h.config) s.lines s.taken.object s.taken.run;
  }
    where
      whole : s.before ≡ rows
      whole = sym (append-nil s.before) ∙ s.is

  module _ {row : List ℕ} {more : List (List ℕ)} (s : RowsSoFar h rows (row ∷ more) checker number) where
    pub bad_row : (length s.before < 1000000 → (l : Line) → IsEventLine h.config.world h.version row l → ⊥) → IsBadRow h rows number
    bad_row bad = record { before = s.before; row = row; after = more; is = s.is; lines = s.lines; read = s.read; few = s.few; run = follows_run (terms_of h.config) (pool_start h.config) s.lines s.taken.object s.taken.run; bad = bad; at = s.at }

    -- where the row is not one too many
    pub few : number < 1000002 → length s.before < 1000000
    few early = (let at = s.at in omega arith)

    module _ (early : number < 1000002) (l : Line) (new : Checker) {said : Option Reason} (judged : TakesMore l checker said new) where
      pub takes : (o : Option Reason) → said ≡ o → TakesOn (terms_of h.config) (pool_start h.config) s.lines l o new
      takes o e =
          let at = s.at in
          let many = s.many in
          subst (λ (x : Option Reason). TakesOn (terms_of h.config) (pool_start h.config) s.lines l x new) e (judged (terms_of h.config) (pool_start h.config) s.lines s.taken (omega arith))

      -- the line that it was read as is the first at fault
      pub row_at_fault : IsEventLine h.config.world h.version row l → {why : Reason} → said ≡ Some why → IsFaultyRow h rows number why
      row_at_fault says {why = why} e =
          record { before = s.before; row = row; after = more; is = s.is; lines = s.lines; read = s.read; few = few early; line = l; says = says; fault = takes (Some why) e; at = s.at }

    -- one more row is taken
    abbrev pub next_row : {l : Line} {new : Checker} → TakesRow h number row checker new l → RowsSoFar h rows more new (number + 1)
    next_row {l = l} {new = new} t =
        let a = length-append s.before (row ∷ []) in
        let b = length-append s.lines (l ∷ []) in
        let m = s.many in
        let n = s.at in
        let room = few t.early in
        record {
          before = s.before ++ row ∷ [];
          lines = s.lines ++ l ∷ [];
          is = append_assoc s.before (row ∷ []) more ∙ s.is;
          read = read_more h.config.world h.version s.before s.lines row l s.read t.says;
          many = omega arith;
          few = omega arith;
          taken = takes t.early l new t.taken None refl;
          at = omega arith;
        }
