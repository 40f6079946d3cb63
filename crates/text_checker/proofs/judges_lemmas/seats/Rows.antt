-- rows of views
use Rattle.std.proofs.Common.{◌≡◌, ℕ, zero, suc, ◌<◌, ◌≤◌, ◌↔◌, inl, inr, Bool, true, false, List, [], ◌∷◌, length, get_or, refl, sym, ap, ◌∙◌, subst, arith, Some, None, Option, slice_index, slice_set, replicate, nat_lt}
use Rattle.text_checker.proofs.judges_lemmas.Common.{cases_Bool, ltb-true, ltb-false, eqb_tells, get_or-set_same, get_or-set_other, length-set, program_of, IsRising, value_of, IsMoment, RenameTerms, RenameObject, IsRecent, ShowsConflict, ShowsSole, Names, Standing, Turn, crowded, SomeSince, HasPair, LacksPair, IsRowOf, TellsMoments, TellsSince, number_reported, reported_in, HoldsNames, turns_in}
use Rattle.std.proofs.lemmas.Grind.{same_number_lists}
use Rattle.model_renaming.specs.RenameObject.{IsConflict, IsSole}
use Rattle.text_checker.proofs.judges_lemmas.seats.Turned.{zero_at}
use Rattle.text_checker.proofs.judges_lemmas.seats.Crowds.{number_some, some_number, has_seat}
use Rattle.text_checker.proofs.judges_lemmas.Views.{here, said_further}
use Rattle.text_checker.proofs.judges_lemmas.Deciding.{recent, since_of_recent, conflicts, stands_alone, own_is}

-- what stands in a rising list is the value of its identity
pub value_at : (xs : List (ℕ × ℕ)) (j : ℕ) (d : ℕ × ℕ) → IsRising xs → j < length xs → value_of (get_or xs j d).0 xs ≡ Some (get_or xs j d).1
value_at [] j d r l = absurd (omega arith)
value_at (x ∷ xs) zero d r l = here x xs
value_at (x ∷ xs) (suc j) d r l = said_further x xs (get_or xs j d).0 (get_or xs j d).1 r (value_at xs j d r.1 (omega arith))

-- a list that has a pair that no moment has is no moment
pub no_moment : (terms : RenameTerms) (s : Names) (o : RenameObject) (view : List (ℕ × ℕ)) (j : ℕ) (d : ℕ × ℕ) (i : ℕ) → HoldsNames terms s o → i ≤ o.last → IsRising view → j < length view →
    LacksPair (turns_in s.participants) (get_or view j d).0 (get_or view j d).1 → IsMoment view (o.moment i) → ⊥
no_moment terms s o view j d i h l r inside lacks is =
    let p : ℕ = (get_or view j d).0 in
    let n : ℕ = (get_or view j d).1 in
    let says : reported_in (h.turns.rows i) (turns_in s.participants p) ≡ Some n = sym (h.turns.shown i l p) ∙ sym (is.values p) ∙ value_at view j d r inside in
    let t = has_seat (turns_in s.participants) (h.turns.rows i) p n (turns_in s.participants p) refl says in
    let small = h.turns.small i l t.turn.seat in
    let at = t.at in
    lacks t.turn t.is t.positive (omega arith)

reported_zero : (o : Option Turn) → reported_in (replicate 64 0) o ≡ None
reported_zero None = refl
reported_zero (Some t) = ap number_reported (zero_at 64 t.seat)

-- the row of no pair
pub no_pair : (turns : ℕ → Option Turn) (many : ℕ) → IsRowOf turns many [] (replicate 64 0)
no_pair turns many = record { wide = refl; says = (λ q. sym (reported_zero (turns q))); unused = (λ seat far. zero_at 64 seat) }

-- the row with one more pair, which comes first
pub one_pair : (terms : RenameTerms) (s : Names) (o : RenameObject) (h : HoldsNames terms s o) (xs : List (ℕ × ℕ)) (x : ℕ × ℕ) (row : List ℕ) (seat : ℕ) →
    IsRowOf (turns_in s.participants) (length s.participants) xs row → HasPair (turns_in s.participants) x.0 x.1 seat →
    IsRowOf (turns_in s.participants) (length s.participants) (x ∷ xs) (slice_set row seat x.1)
one_pair terms s o h xs x row seat r k =
    let below = h.turns.seated x.0 k.turn k.is in
    let room = h.room in
    let fits = h.fits in
    let at = k.at in
    let wide = r.wide in
    let inside : seat < length row = omega arith in
    record {
      wide = length-set row seat x.1 ∙ r.wide;
      says = (λ q. elim (eqb_tells x.0 q) [
        | inl y ↦ rw y.0 (sym (
            ap (reported_in (slice_set row seat x.1)) (ap (turns_in s.participants) (sym y.1) ∙ k.is) ∙ ap number_reported (ap (slice_index (slice_set row seat x.1)) k.at ∙ get_or-set_same row seat x.1 0 inside) ∙ number_some x.1 k.positive))
        | inr y ↦ rw y.0 (r.says q ∙ elim (turns_in s.participants q) as (λ z. turns_in s.participants q ≡ z → reported_in row z ≡ reported_in (slice_set row seat x.1) z) [
          | None ↦ λ e. refl
          | Some u ↦ λ e. ap number_reported (sym (get_or-set_other row seat u.seat x.1 0 (λ same. y.1 (sym (h.turns.apart q x.0 u k.turn e k.is (same ∙ sym k.at))))))
        ] refl)
      ]);
      unused = (λ other far. get_or-set_other row seat other x.1 0 (λ same. absurd (omega arith)) ∙ r.unused other far);
    }

number_reported_one : (a b : ℕ) → number_reported a ≡ number_reported b → a ≡ b
number_reported_one a b e = elim (eqb_tells a 0) [
  | inl y ↦ elim (eqb_tells b 0) [ inl z ↦ y.1 ∙ sym z.1 | inr z ↦ (let some = z.1 in (some_number a b (e ∙ number_some b (omega arith))).0) ]
  | inr y ↦ (let some = y.1 in sym (some_number b a (sym e ∙ number_some a (omega arith))).0)
]

-- a rising list is a moment exactly where its row is the moment's
pub row_tells : (terms : RenameTerms) (s : Names) (o : RenameObject) (h : HoldsNames terms s o) (view : List (ℕ × ℕ)) (row : List ℕ) →
    IsRowOf (turns_in s.participants) (length s.participants) view row → TellsMoments o h.turns.rows view (Some row)
row_tells terms s o h view row r i l rises = (
  (λ is. same_number_lists (h.turns.rows i) row (h.turns.held.wide i l ∙ sym r.wide) (λ seat inside. elim (cases_Bool (nat_lt seat (length s.participants))) [
    | inl y ↦
        let k = h.turns.taken seat (ltb-true _ _ y) in
        let e : number_reported (slice_index (h.turns.rows i) k.turn.seat) ≡ number_reported (slice_index row k.turn.seat) =
        sym (ap (reported_in (h.turns.rows i)) k.is) ∙ sym (h.turns.shown i l k.who) ∙ sym (is.values k.who) ∙ r.says k.who ∙ ap (reported_in row) k.is in
        subst (λ x. slice_index (h.turns.rows i) x ≡ slice_index row x) k.at (number_reported_one _ _ e)
    | inr y ↦ h.turns.unused i l seat (ltb-false _ _ y) ∙ sym (r.unused seat (ltb-false _ _ y))
  ])),
  (λ e. record { rising = rises; values = (λ q. r.says q ∙ ap (λ x. reported_in x (turns_in s.participants q)) (sym e) ∙ sym (h.turns.shown i l q)) }),
)

-- what a row that is found of a view tells of one who has begun and proposed
module _ (terms : RenameTerms) (s : Names) (o : RenameObject) (p : ℕ) (st : Standing) (h : HoldsNames terms s o) (is : program_of p s.participants ≡ Some st) (some : 1 ≤ o.count p)
    (view : List (ℕ × ℕ)) where
  moment_since : (i : ℕ) → IsRecent o p i → IsMoment view (o.moment i) → SomeSince (λ j. IsMoment view (o.moment j)) st.turn.since o.last
  moment_since i r m = record { index = i; no_earlier = since_of_recent terms s o p st h is some i r; no_later = r.no_later; passes = m }

  pub no_conflict : TellsSince o h.turns.rows st.turn.since view None → ShowsConflict o p view → ⊥
  no_conflict none c = none (moment_since c.index c.recent c.is)

  pub no_sole : (n : ℕ) → TellsSince o h.turns.rows st.turn.since view None → ShowsSole o p n view → ⊥
  no_sole n none c = none (moment_since c.index c.recent c.is)

  -- it is the last proposal that is seen
  pub sole_number : (n : ℕ) → ShowsSole o p n view → st.turn.number ≡ n
  sole_number n c =
      let e : Some st.turn.number ≡ Some n = sym (own_is terms s o p st h is some c.index (since_of_recent terms s o p st h is some c.index c.recent) c.recent.no_later) ∙ c.sole.own in
      cc

  module _ (row : List ℕ) (tells : TellsSince o h.turns.rows st.turn.since view (Some row)) where
    -- what rows of recent moments tell by their crowd, this row tells of one of them
    told : (b : Bool) (Is : ℕ → Type 0) → ((i : ℕ) → st.turn.since ≤ i → i ≤ o.last → (crowded st.turn.number (h.turns.rows i) ≡ b) ↔ Is i) →
        (crowded st.turn.number row ≡ b) ↔ ((i : ℕ) × IsRecent o p i × IsMoment view (o.moment i) × Is i)
    told b Is each = (
      (λ shown.
          let k = tells.0 in
          let recently = recent terms s o p st h is some k.index k.no_earlier k.no_later in
          (k.index, recently, k.passes, (each k.index k.no_earlier k.no_later).0 (ap (crowded st.turn.number) (tells.1 k.index k.no_later k.passes) ∙ shown))),
      (λ c. ap (crowded st.turn.number) (sym (tells.1 c.0 c.1.no_later c.2)) ∙ (each c.0 (since_of_recent terms s o p st h is some c.0 c.1) c.1.no_later).1 c.3),
    )

    pub conflict_shown : (crowded st.turn.number row ≡ true) ↔ ShowsConflict o p view
    conflict_shown =
        let k = told true (λ i. IsConflict (o.moment i) p) (conflicts terms s o p st h is some) in
        ((λ crowd. (let c = k.0 crowd in record { index = c.0; recent = c.1; is = c.2; conflict = c.3 })), (λ c. k.1 (c.index, c.recent, c.is, c.conflict)))

    pub sole_shown : (crowded st.turn.number row ≡ false) ↔ ShowsSole o p st.turn.number view
    sole_shown =
        let k = told false (λ i. IsSole (o.moment i) p st.turn.number) (stands_alone terms s o p st h is some) in
        ((λ calm. (let c = k.0 calm in record { index = c.0; recent = c.1; is = c.2; sole = c.3 })), (λ c. k.1 (c.index, c.recent, c.is, c.sole)))
