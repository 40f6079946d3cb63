-- what tables tell of those who have proposed
use Rattle.std.proofs.Common.{◌≡◌, ℕ, ◌≤◌, ◌==◌, ◌↔◌, inl, inr, Bool, true, false, List, [], ◌∷◌, length, refl, sym, ap, ◌∙◌, arith, Some, None, Option, IsTrue, option_map}
use Rattle.text_checker.proofs.judges_lemmas.Common.{eqb_tells, Participant, participant_of, program_of, IsRising, value_of, inserted, IsRising-inserted, value_of-inserted, IsMoment, Names, Standing, Turn, crowded, SomeSince, turn_of, count_of, since_of, reported_in, Stands, HoldsNames, turns_in, MayBeNamed}
use Rattle.model_renaming.specs.RenameObject.{RenameTerms, RenameObject, IsRecent, IsConflict, IsSole, HasConflict, IsFreeName}
use Rattle.text_checker.proofs.judges_lemmas.seats.Crowds.{own, conflicting, standing_alone}

-- the view of a moment: the pairs of those of whom it says something
abbrev with_reported : List (ℕ × ℕ) → ℕ → Option ℕ → List (ℕ × ℕ)
with_reported view p None = view
with_reported view p (Some n) = inserted view (p, n)

abbrev view_of : List (Participant Standing) → (ℕ → Option ℕ) → List (ℕ × ℕ)
view_of [] reported = []
view_of (v ∷ vs) reported = with_reported (view_of vs reported) v.identity (reported v.identity)

with_rises : (view : List (ℕ × ℕ)) (p : ℕ) (o : Option ℕ) → IsRising view → IsRising (with_reported view p o)
with_rises view p None h = h
with_rises view p (Some n) h = IsRising-inserted view (p, n) h

view_rises : (ps : List (Participant Standing)) (reported : ℕ → Option ℕ) → IsRising (view_of ps reported)
view_rises [] reported = tt
view_rises (v ∷ vs) reported = with_rises (view_of vs reported) v.identity (reported v.identity) (view_rises vs reported)

-- what is put in of one is not seen of another
with_other : (view : List (ℕ × ℕ)) (p q : ℕ) (o : Option ℕ) → (p == q) ≡ false → value_of q (with_reported view p o) ≡ value_of q view
with_other view p q None h = refl
with_other view p q (Some n) h = value_of-inserted q view (p, n) ∙ rw h refl

-- so it says of each what is reported of it, where nothing is reported of who is not among them
view_says : (ps : List (Participant Standing)) (reported : ℕ → Option ℕ) (q : ℕ) → (participant_of q ps ≡ None → reported q ≡ None) → value_of q (view_of ps reported) ≡ reported q
view_says [] reported q none = sym (none refl)
view_says (v ∷ vs) reported q none = elim (eqb_tells v.identity q) [
  | inl y ↦ (elim (reported v.identity) as (λ o. reported v.identity ≡ o → value_of q (with_reported (view_of vs reported) v.identity o) ≡ reported q) [
    | None ↦ λ e. view_says vs reported q (λ _. sym (ap reported y.1) ∙ e)
    | Some n ↦ λ e. value_of-inserted q (view_of vs reported) (v.identity, n) ∙ rw y.0 (sym e ∙ ap reported y.1)
  ]) refl
  | inr y ↦ with_other (view_of vs reported) v.identity q (reported v.identity) y.0 ∙ view_says vs reported q (λ e. none (rw y.0 e))
]

-- each moment of the object has its view
has_view : (terms : RenameTerms) (s : Names) (o : RenameObject) (i : ℕ) → HoldsNames terms s o → i ≤ o.last → IsMoment (view_of s.participants (o.moment i)) (o.moment i)
has_view terms s o i h l = record {
  rising = view_rises s.participants (o.moment i);
  values = λ q. view_says s.participants (o.moment i) q (λ none. h.turns.shown i l q ∙ ap (λ x. reported_in (h.turns.rows i) (turn_of (option_map (λ v. v.program) x))) none);
}

-- of one who has begun and proposed
module _ (terms : RenameTerms) (s : Names) (o : RenameObject) (p : ℕ) (st : Standing) (h : HoldsNames terms s o) (is : program_of p s.participants ≡ Some st) where
  abbrev t : Turn
  t = st.turn

  turn_is : turns_in s.participants p ≡ Some t
  turn_is = ap turn_of is

  pub count_is : o.count p ≡ t.count
  count_is = h.turns.count p ∙ ap count_of turn_is

  since_is : o.since p ≡ t.since
  since_is = h.turns.since p ∙ ap since_of turn_is

  fits : length s.participants ≤ 64
  fits = let r = h.room in let f = h.fits in omega arith

  module _ (some : 1 ≤ o.count p) where
    pub stand : Stands h.turns.rows o.last t
    stand = h.turns.stands p t turn_is (let c = count_is in omega arith)

    pub recent : (i : ℕ) → t.since ≤ i → i ≤ o.last → IsRecent o p i
    recent i from l = record { no_earlier = rw since_is from; no_later = l }

    pub since_of_recent : (i : ℕ) → IsRecent o p i → t.since ≤ i
    since_of_recent i r = let e = since_is in let f = r.no_earlier in omega arith

    pub conflicts : (i : ℕ) → t.since ≤ i → i ≤ o.last → (crowded t.number (h.turns.rows i) ≡ true) ↔ IsConflict (o.moment i) p
    conflicts i from l = conflicting (turns_in s.participants) (length s.participants) terms.limit s.moments o.last o.moment o.count o.since h.turns i p t.number t l fits turn_is (stand.in_each i from l) stand.positive

    pub stands_alone : (i : ℕ) → t.since ≤ i → i ≤ o.last → (crowded t.number (h.turns.rows i) ≡ false) ↔ IsSole (o.moment i) p t.number
    stands_alone i from l = standing_alone (turns_in s.participants) (length s.participants) terms.limit s.moments o.last o.moment o.count o.since h.turns i p t.number t l fits turn_is (stand.in_each i from l) stand.positive

    pub own_is : (i : ℕ) → t.since ≤ i → i ≤ o.last → o.moment i p ≡ Some t.number
    own_is i from l = own (turns_in s.participants) (length s.participants) terms.limit s.moments o.last o.moment o.count o.since h.turns i p t.number t l fits turn_is (stand.in_each i from l) stand.positive

    -- another has proposed the same
    pub conflict_reported : (r : Bool) → IsTrue r ↔ SomeSince (λ i. crowded t.number (h.turns.rows i) ≡ true) t.since o.last → IsTrue r ↔ HasConflict o p
    conflict_reported r w = (
      (λ y. let k = w.0 y in record { index = k.index; recent = recent k.index k.no_earlier k.no_later; conflict = (conflicts k.index k.no_earlier k.no_later).0 k.passes }),
      (λ k.
          let from = since_of_recent k.index k.recent in
          w.1 (record { index = k.index; no_earlier = from; no_later = k.recent.no_later; passes = (conflicts k.index from k.recent.no_later).1 k.conflict })),
    )

    pub sole_reported : (r : Bool) → IsTrue r ↔ SomeSince (λ i. crowded t.number (h.turns.rows i) ≡ false) t.since o.last → IsFreeName o t.number → IsTrue r ↔ MayBeNamed o p t.number None
    sole_reported r w free = (
      (λ y.
          let k = w.0 y in
          record {
            view = view_of s.participants (o.moment k.index);
            written = tt;
            some = some;
            shows = record { index = k.index; recent = recent k.index k.no_earlier k.no_later; is = has_view terms s o k.index h k.no_later; sole = (stands_alone k.index k.no_earlier k.no_later).0 k.passes };
            free = free;
          }),
      (λ k.
          let from = since_of_recent k.shows.index k.shows.recent in
          w.1 (record { index = k.shows.index; no_earlier = from; no_later = k.shows.recent.no_later; passes = (stands_alone k.shows.index from k.shows.recent.no_later).1 k.shows.sole })),
    )
