-- each step of a name board keeps its rule
use Rattle.std.proofs.Common.{◌≡◌, ◌≢◌, ◌⊎◌, ℕ, zero, suc, ◌<◌, ◌≤◌, inl, inr, ⊎_elim, cond, eqb, eq-eqb, ne_eqb, ◌||◌, subst, sym, refl, ap, ◌∙◌, arith, List, [], ◌∷◌, ◌++◌, length, set, slice_set, slice_index}
use Rattle.words_machine.proofs.parts_lemmas.Common.{BoardClaim, BoardView}
use Rattle.std.proofs.lemmas.List.{set-get_or, length-set, take-replicate, length-replicate}
use mathlib.Core.Option.{some, none, some-ne-none, some-injective}
use mathlib.Core.Logic.{dite}
use native.Mathlib.Decide.{ℕ_discrete}
use prog.Atomic.{either}
use lib.ListN.{get_elem?, take, replicate}
use Rattle.atomic_table.specs.Table.{Step, step, Allows, Joins, Splits, keeps}
use Rattle.atomic_table.proofs.Lists.{at_set, at_snoc, at_last, at_longer, set_here, set_else, set_again, exchanged}
use Rattle.words_machine.specs.parts.BoardRule.{IsSo, AreSo, IsClaimed, IsGranted, KeepsBoard, KeepsBoardRule}
use Rattle.words_machine.specs.parts.BoardSteps.{Posts, Finds, LooksOn, AgreeWith, Reads}
use Rattle.words_machine.specs.parts.BoardView.{claim, board_view, claims_of, no_claim, no_claim_after, lone_claim, united}

-- what stands at a place of a list, in the two ways of saying it
pub index_of-at : (ws : List ℕ) (i x : ℕ) → get_elem? ws i ≡ some x → slice_index ws i ≡ x
index_of-at [] i x e = absurd (some-ne-none x (sym e))
index_of-at (w ∷ ws) zero x e = some-injective w x e
index_of-at (w ∷ ws) (suc i) x e = index_of-at ws i x e

at-index_of : (ws : List ℕ) (i x : ℕ) → i < length ws → slice_index ws i ≡ x → get_elem? ws i ≡ some x
at-index_of [] i x h e = absurd (omega arith)
at-index_of (w ∷ ws) zero x h e = ap some e
at-index_of (w ∷ ws) (suc i) x h e = at-index_of ws i x (omega arith) e

-- no claim is of a word that was 0
still_so : (ws : List ℕ) (i x : ℕ) (cs : List BoardClaim) → slice_index ws i ≡ 0 → AreSo ws cs → AreSo (set ws i x) cs
still_so ws i x [] z h = tt
still_so ws i x (c ∷ cs) z h =
    ((set_else ws i c.word x (λ e. h.0.1 (sym (index_of-at ws i c.identity (ap (λ (k : ℕ). get_elem? ws k) (sym e) ∙ h.0.0)) ∙ z)) ∙ h.0.0, h.0.1), still_so ws i x cs z h.1)

each_seat : (P : BoardView → Type 0) (views : List BoardView) (i : ℕ) (w : BoardView) → P w → ((j : ℕ) (u : BoardView) → get_elem? views j ≡ some u → P u) → (j : ℕ) (u : BoardView) → get_elem? (set views i w) j ≡ some u → P u
each_seat P views i w mine others j u e = ⊎_elim (λ (x : (j ≡ i) × (w ≡ u)). subst P x.1 mine) (λ (x : (j ≢ i) × (get_elem? views j ≡ some u)). others j u x.1) (at_set views i j w u e)

-- the claims of two seats
so_both : (ws : List ℕ) (cs ds : List BoardClaim) → AreSo ws cs → AreSo ws ds → AreSo ws (cs ++ ds)
so_both ws [] ds h k = k
so_both ws (c ∷ cs) ds h k = (h.0, so_both ws cs ds h.1 k)

pub claimed_first : (c : BoardClaim) (cs ds : List BoardClaim) → IsClaimed c cs → IsClaimed c (cs ++ ds)
claimed_first c [] ds h = absurd h
claimed_first c (d ∷ cs) ds h = ⊎_elim inl (λ t. inr (claimed_first c cs ds t)) h

pub claimed_second : (c : BoardClaim) (cs ds : List BoardClaim) → IsClaimed c ds → IsClaimed c (cs ++ ds)
claimed_second c [] ds h = h
claimed_second c (d ∷ cs) ds h = inr (claimed_second c cs ds h)

-- claims that are so agree with what stands in each word
agree : (ws : List ℕ) (word : ℕ) (cs : List BoardClaim) → AreSo ws cs → AgreeWith word (slice_index ws word) cs
agree ws word [] h = tt
agree ws word (c ∷ cs) h = ((λ e. index_of-at ws word c.identity (ap (λ (k : ℕ). get_elem? ws k) (sym e) ∙ h.0.0)), agree ws word cs h.1)

-- what a claim says of a word that agrees
pub agreed : (word found : ℕ) (c : BoardClaim) (cs : List BoardClaim) → AgreeWith word found cs → IsClaimed c cs → c.word ≡ word → found ≡ c.identity
agreed word found c [] h k e = absurd k
agreed word found c (d ∷ ds) h k e = ⊎_elim
    (λ (same : c ≡ d). h.0 (sym (ap (λ (x : BoardClaim). x.word) same) ∙ e) ∙ sym (ap (λ (x : BoardClaim). x.identity) same))
    (λ t. agreed word found c ds h.1 t e) k

-- the view of a seat that has one
set_there : (views : List BoardView) (i : ℕ) (old new : BoardView) → get_elem? views i ≡ some old → get_elem? (set views i new) i ≡ some new
set_there [] i old new e = absurd (some-ne-none old (sym e))
set_there (x ∷ xs) zero old new e = refl
set_there (x ∷ xs) (suc i) old new e = set_there xs i old new e

-- what a claim's seat has, where that is the seat with this view
has_it : (views : List BoardView) (i : ℕ) (old : BoardView) (c : BoardClaim) (g : IsGranted views c) → get_elem? views i ≡ some old → g.seat ≡ i → IsClaimed c old.claims
has_it views i old c g e same = subst (λ (v : BoardView). IsClaimed c v.claims) (some-injective g.view old (sym g.there ∙ ap (λ (k : ℕ). get_elem? views k) same ∙ e)) g.claimed

-- a claim is still some seat's where a seat's view becomes one that has what it had
still_granted : (views : List BoardView) (i : ℕ) (old new : BoardView) (c : BoardClaim) → get_elem? views i ≡ some old → (IsClaimed c old.claims → IsClaimed c new.claims) → IsGranted views c → IsGranted (set views i new) c
still_granted views i old new c e more g = dite (ℕ_discrete g.seat i)
    (λ same. record { seat = i; view = new; there = set_there views i old new e; claimed = more (has_it views i old c g e same) })
    (λ other. record { seat = g.seat; view = g.view; there = set_else views i g.seat new other ∙ g.there; claimed = g.claimed })

-- or is cut in two, which have what it had
cut_granted : (views : List BoardView) (i : ℕ) (old left right : BoardView) (c : BoardClaim) → get_elem? views i ≡ some old → (IsClaimed c old.claims → IsClaimed c left.claims ⊎ IsClaimed c right.claims) → IsGranted views c → IsGranted (set views i left ++ right ∷ []) c
cut_granted views i old left right c e more g = dite (ℕ_discrete g.seat i)
    (λ same. ⊎_elim
    (λ l. record { seat = i; view = left; there = at_longer (set views i left) (right ∷ []) i left (set_there views i old left e); claimed = l })
    (λ r. record { seat = length (set views i left); view = right; there = at_last (set views i left) right (length (set views i left)) refl; claimed = r })
    (more (has_it views i old c g e same)))
    (λ other. record { seat = g.seat; view = g.view; there = at_longer (set views i left) (right ∷ []) g.seat g.view (set_else views i g.seat left other ∙ g.there); claimed = g.claimed })

-- or where two become one, which has what they had
joined_granted : (views : List BoardView) (i other : ℕ) (v w both spent : BoardView) (c : BoardClaim) → get_elem? views i ≡ some v → other ≢ i → get_elem? (set views i both) other ≡ some w
    → (IsClaimed c v.claims → IsClaimed c both.claims) → (IsClaimed c w.claims → IsClaimed c both.claims) → IsGranted views c → IsGranted (set (set views i both) other spent) c
joined_granted views i other v w both spent c e apart e' mine theirs g =
    let once : IsGranted (set views i both) c = still_granted views i v both c e mine g in
    dite (ℕ_discrete once.seat other)
    (λ same. record {
      seat = i;
      view = both;
      there = set_else (set views i both) other i spent (λ x. apart (sym x)) ∙ set_there views i v both e;
      claimed = theirs (has_it (set views i both) other w c once e' same);
    })
    (λ else. record { seat = once.seat; view = once.view; there = set_else (set views i both) other once.seat spent else ∙ once.there; claimed = once.claimed })

module _ {S : Type 0} (count slots seat : ℕ) where
  pub may_post : (word who acc last : ℕ) → word < count → who ≢ 0 →
      Allows {S = S} {V = BoardView} (KeepsBoardRule count) slots seat (no_claim_after acc last, []) word (λ f. either (eqb f 0) who f) (Posts (step slots word 0 who none) (no_claim_after acc last, []))
  may_post word who acc last within some_one s h _ e _ =
      let found : ℕ = slice_index s.words word in
      let new : BoardView = board_view (cond (eqb found 0 || eqb found who) (claim word who ∷ []) []) (suc acc) found [] in
      let words : List ℕ = slice_set s.words word (either (eqb found 0) who found) in
      let long : word < length s.words = rw h.as_many within in
      let F : ℕ → Type 0 = λ x. ((cs : List BoardClaim) → AreSo s.words cs → AreSo (set s.words word x) cs) in
      let others : F (either (eqb found 0) who found) = exchanged found 0 who F (λ z cs t. still_so s.words word who cs z t) (λ z cs t. rw (set-get_or s.words word 0) t) in
      let mine : AreSo words new.claims = dite (ℕ_discrete found 0)
      (λ z. let a = eq-eqb found 0 z in rw a ((set_here s.words word who long, some_one), tt))
      (λ z. let a = ne_eqb found 0 z in dite (ℕ_discrete found who)
      (λ y. let b = eq-eqb found who y in rw (a, b) ((ap (λ (l : List ℕ). get_elem? l word) (set-get_or s.words word 0) ∙ at-index_of s.words word who long y, some_one), tt))
      (λ y. let b = ne_eqb found who y in rw (a, b) tt)) in
      let views : List BoardView = set s.views seat new in
      let was : (w a : ℕ) → get_elem? s.words w ≡ some a → a ≢ 0 → IsGranted views (claim w a) = λ w a t z. still_granted s.views seat (no_claim_after acc last) new (claim w a) e (λ x. absurd x) (h.posted w a t z) in
      let G : ℕ → Type 0 = λ x. ((a : ℕ) → x ≡ a → a ≢ 0 → IsGranted views (claim word a)) in
      let here : G (either (eqb found 0) who found) = exchanged found 0 who G
      (λ z a x _. let first = eq-eqb found 0 z in let mine : IsClaimed (claim word who) new.claims = rw first (inl refl) in
      subst (λ (k : ℕ). IsGranted views (claim word k)) x (record { seat = seat; view = new; there = set_there s.views seat (no_claim_after acc last) new e; claimed = mine }))
      (λ _ a x z. was word a (at-index_of s.words word a long x) z) in
      let posted : (w a : ℕ) → get_elem? words w ≡ some a → a ≢ 0 → IsGranted views (claim w a) = λ w a t z. ⊎_elim
      (λ (y : (w ≡ word) × (either (eqb found 0) who found ≡ a)). subst (λ (k : ℕ). IsGranted views (claim k a)) (sym y.0) (here a y.1 z))
      (λ (y : (w ≢ word) × (get_elem? s.words w ≡ some a)). was w a y.1 z)
      (at_set s.words word w (either (eqb found 0) who found) a t) in
      (new, keeps, tt, record { as_many = length-set s.words word _ ∙ h.as_many; claimed = each_seat (λ v. AreSo words v.claims) s.views seat new mine (λ j u f. others u.claims (h.claimed j u f)); posted = posted }, refl)

  pub may_find : (word acc last : ℕ) → word < count →
      Allows {S = S} {V = BoardView} (KeepsBoardRule count) slots seat (no_claim_after acc last, []) word (λ f. f) (Finds (step slots word 0 0 none) (no_claim_after acc last, []))
  may_find word acc last within s h _ e _ =
      let found : ℕ = slice_index s.words word in
      let new : BoardView = board_view (cond (eqb found 0) [] (claim word found ∷ [])) (suc acc) found [] in
      let long : word < length s.words = rw h.as_many within in
      let same : slice_set s.words word found ≡ s.words = set-get_or s.words word 0 in
      let mine : AreSo s.words new.claims = dite (ℕ_discrete found 0)
      (λ z. let a = eq-eqb found 0 z in rw a tt)
      (λ z. let a = ne_eqb found 0 z in rw a ((at-index_of s.words word found long refl, z), tt)) in
      let posted : (w a : ℕ) → get_elem? s.words w ≡ some a → a ≢ 0 → IsGranted (set s.views seat new) (claim w a) = λ w a t z. still_granted s.views seat (no_claim_after acc last) new (claim w a) e (λ x. absurd x) (h.posted w a t z) in
      let kept : KeepsBoard count s.words (set s.views seat new) = record { as_many = h.as_many; claimed = each_seat (λ v. AreSo s.words v.claims) s.views seat new mine h.claimed; posted = posted } in
      let still : KeepsBoard count (slice_set s.words word found) (set s.views seat new) = rw same kept in
      (new, keeps, tt, still, refl)

  -- the last seat reads the next word
  pub may_read : (u : BoardView) (word : ℕ) → word ≡ length u.read →
      Allows {S = S} {V = BoardView} (KeepsBoardRule count) slots seat (u, []) word (λ f. f) (Reads (step slots word 0 0 none) (u, []))
  may_read u word next s h _ e _ =
      let found : ℕ = slice_index s.words word in
      let new : BoardView = board_view u.claims (suc u.accesses) u.found (found ∷ u.read) in
      let same : slice_set s.words word found ≡ s.words = set-get_or s.words word 0 in
      let mine : AreSo s.words u.claims = h.claimed seat u e in
      let posted : (w a : ℕ) → get_elem? s.words w ≡ some a → a ≢ 0 → IsGranted (set s.views seat new) (claim w a) = λ w a t z. still_granted s.views seat u new (claim w a) e (λ x. x) (h.posted w a t z) in
      let kept : KeepsBoard count s.words (set s.views seat new) = record { as_many = h.as_many; claimed = each_seat (λ v. AreSo s.words v.claims) s.views seat new mine h.claimed; posted = posted } in
      let still : KeepsBoard count (slice_set s.words word found) (set s.views seat new) = rw same kept in
      (new, keeps, tt, still, (next, agree s.words word u.claims mine, refl))

  pub may_hand : (v : BoardView) → Splits {S = S} {V = BoardView} (KeepsBoardRule count) seat v (board_view [] (suc v.accesses) v.found v.read) (claims_of v.claims)
  may_hand v s h e =
      let left : BoardView = board_view [] (suc v.accesses) v.found v.read in
      record {
        as_many = h.as_many;
        claimed = λ j u f. ⊎_elim (λ x. each_seat (λ v. AreSo s.words v.claims) s.views seat left tt h.claimed j u x)
            (λ (x : claims_of v.claims ≡ u). subst (λ (v : BoardView). AreSo s.words v.claims) x (h.claimed seat v e)) (at_snoc (set s.views seat left) (claims_of v.claims) u j f);
        posted = λ w a t z. cut_granted s.views seat v left (claims_of v.claims) (claim w a) e inr (h.posted w a t z);
      }

  -- the claims of another seat become this seat's
  pub may_unite : (other : ℕ) (v w : BoardView) → Joins {S = S} {V = BoardView} (KeepsBoardRule count) seat v other w (united v w) no_claim
  may_unite other v w s h e apart e' =
      let both : BoardView = united v w in
      let was : get_elem? s.views other ≡ some w = ⊎_elim (λ t. absurd (apart t.0)) (λ t. t.1) (at_set s.views seat other both w e') in
      let mine = h.claimed seat v e in
      let theirs = h.claimed other w was in
      record {
        as_many = h.as_many;
        claimed = each_seat (λ v. AreSo s.words v.claims) (set s.views seat both) other no_claim tt
            (λ j u f. each_seat (λ v. AreSo s.words v.claims) s.views seat both (so_both s.words v.claims w.claims mine theirs) h.claimed j u f);
        posted = λ i a t z. joined_granted s.views seat other v w both no_claim (claim i a) e apart e' (λ x. claimed_first (claim i a) v.claims w.claims x)
            (λ x. claimed_second (claim i a) v.claims w.claims x) (h.posted i a t z);
      }

  module _ (w a z b : ℕ) where
    pub may_look_on : (st : Step S) → Allows {S = S} {V = BoardView} (KeepsBoardRule count) slots seat (board_view (claim w a ∷ claim z b ∷ []) 1 0 [], []) 0 (λ f. f) (LooksOn st (board_view (claim w a ∷ claim z b ∷ []) 1 0 [], []))
    may_look_on st s h _ e _ =
        let both : BoardView = board_view (claim w a ∷ claim z b ∷ []) 1 0 [] in
        let kept : KeepsBoard count (slice_set s.words 0 (slice_index s.words 0)) (set s.views seat both) = rw (set-get_or s.words 0 0, set_again s.views seat both e) h in
        (both, keeps, tt, kept, (refl, record { words = s.words; so = h.claimed seat both e }, refl))

    pub may_divide : Splits {S = S} {V = BoardView} (KeepsBoardRule count) seat (board_view (claim w a ∷ claim z b ∷ []) 1 0 []) (lone_claim w a) (lone_claim z b)
    may_divide s h e =
        let t = h.claimed seat _ e in
        record {
          as_many = h.as_many;
          claimed = λ j u f. ⊎_elim (λ x. each_seat (λ v. AreSo s.words v.claims) s.views seat (lone_claim w a) (t.0, tt) h.claimed j u x)
              (λ (x : lone_claim z b ≡ u). subst (λ (v : BoardView). AreSo s.words v.claims) x t.1) (at_snoc (set s.views seat (lone_claim w a)) (lone_claim z b) u j f);
          posted = λ i x t n. cut_granted s.views seat (board_view (claim w a ∷ claim z b ∷ []) 1 0 []) (lone_claim w a) (lone_claim z b) (claim i x) e
              (λ has. ⊎_elim (λ first. inl (inl first)) (λ second. inr second) has) (h.posted i x t n);
        }

-- each of these claims is so
is_so : (words : List ℕ) (c : BoardClaim) (cs : List BoardClaim) → AreSo words cs → IsClaimed c cs → IsSo words c
is_so words c [] h k = absurd k
is_so words c (d ∷ ds) h k = ⊎_elim (λ (e : c ≡ d). subst (λ (x : BoardClaim). IsSo words x) (sym e) h.0) (λ (m : IsClaimed c ds). is_so words c ds h.1 m) k

pub granted_is_so : (count : ℕ) (words : List ℕ) (views : List BoardView) (c : BoardClaim) → KeepsBoard count words views → IsGranted views c → IsSo words c
granted_is_so count words views c kept has = is_so words c has.view.claims (kept.claimed has.seat has.view has.there) has.claimed

pub granted_one : (count : ℕ) (words : List ℕ) (views : List BoardView) (c d : BoardClaim) → KeepsBoard count words views → IsGranted views c → IsGranted views d → c.word ≡ d.word → c.identity ≡ d.identity
granted_one count words views c d kept has others same =
    some-injective c.identity d.identity (sym (granted_is_so count words views c kept has).0 ∙ ap (λ (k : ℕ). get_elem? words k) same ∙ (granted_is_so count words views d kept others).0)

-- one word more is read
before : (l m : List ℕ) (k : ℕ) → k < length l → get_elem? (l ++ m) k ≡ get_elem? l k
before [] m k h = absurd (omega arith)
before (x ∷ xs) m zero h = refl
before (x ∷ xs) m (suc k) h = before xs m k (omega arith)

-- so what claims say of the words that were read, they say of one more
pub read_more : (out : List ℕ) (i x : ℕ) (cs : List BoardClaim) → length out ≡ i → ((c : BoardClaim) → IsClaimed c cs → c.word < i → slice_index out c.word ≡ c.identity) → AgreeWith i x cs
    → (c : BoardClaim) → IsClaimed c cs → c.word < suc i → slice_index (out ++ x ∷ []) c.word ≡ c.identity
read_more out i x cs n h new c k lt = dite (ℕ_discrete c.word i)
    (λ z. index_of-at (out ++ x ∷ []) c.word c.identity (ap (λ (j : ℕ). get_elem? (out ++ x ∷ []) j) (z ∙ sym n) ∙ at_last out x (length out) refl ∙ ap some (agreed i x c cs new k z)))
    (λ z. let long : c.word < length out = omega arith in index_of-at (out ++ x ∷ []) c.word c.identity (before out (x ∷ []) c.word long ∙ at-index_of out c.word c.identity long (h c k (omega arith))))

pub claimed_where : (count : ℕ) (words : List ℕ) (views : List BoardView) (word who : ℕ) → KeepsBoard count words views → get_elem? words word ≡ some who → who ≢ 0 → IsGranted views (claim word who)
claimed_where count words views word who kept there not_zero = kept.posted word who there not_zero

-- a board on which nothing was posted
all_zero : (n word who : ℕ) → get_elem? (replicate n 0) word ≡ some who → 0 ≡ who
all_zero zero word who e = absurd (some-ne-none who (sym e))
all_zero (suc n) zero who e = some-injective 0 who e
all_zero (suc n) (suc word) who e = all_zero n word who e

lone_view_is : (seat : ℕ) (v : BoardView) → get_elem? (no_claim ∷ []) seat ≡ some v → no_claim ≡ v
lone_view_is zero v e = some-injective no_claim v e
lone_view_is (suc seat) v e = absurd (some-ne-none v (sym e))

fresh_words : (names : ℕ) → KeepsBoard names (replicate names 0) (no_claim ∷ [])
fresh_words names = record {
  as_many = length-replicate names 0;
  claimed = λ seat v e. subst (λ (u : BoardView). AreSo (replicate names 0) u.claims) (lone_view_is seat v e) tt;
  posted = λ word who e not_zero. absurd (not_zero (sym (all_zero names word who e)));
}

pub fresh_board : (names : ℕ) → names ≤ 127 → KeepsBoard names (take names (replicate 127 0)) (no_claim ∷ [])
fresh_board names few = subst (λ (l : List ℕ). KeepsBoard names l (no_claim ∷ [])) (sym (take-replicate names 127 0 few)) (fresh_words names)
