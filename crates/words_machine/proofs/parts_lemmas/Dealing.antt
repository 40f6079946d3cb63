-- a table opens under the rule, and keeps it where a seat is dealt out
use Rattle.std.proofs.Common.{◌≡◌, ◌≢◌, ℕ, zero, suc, ◌+◌, ◌-◌, ◌<◌, ◌≤◌, inl, inr, ⊎_elim, sym, refl, ap, ◌∙◌, subst, arith, List, [], ◌∷◌, ◌++◌, length, set, take, drop}
use Rattle.words_machine.proofs.parts_lemmas.Common.{set_at, VisitStage, Outside, Visit, SplitterView, IsShown, Meets, IsAmong, Shows, KeepsRule, set_at-cases, set_at-same, set_at-other}
use mathlib.Core.Option.{some, some-ne-none, some-injective}
use mathlib.Core.Logic.{dite}
use native.Mathlib.Decide.{ℕ_discrete}
use lib.ListN.{get_elem?}
use Rattle.atomic_table.specs.Table.{Me, Splits, opening}
use Rattle.model_splitter.proofs.cited.DoorKept.{lawful_new}
use Rattle.words_machine.specs.parts.SplitterRule.{IsHeld, IsKept}
use Rattle.words_machine.specs.parts.SplitterView.{fresh_visit, view_of, unbegun_from, undealt_from}
use Rattle.words_machine.proofs.parts_lemmas.Views.{each_set, each_pushed, HoldsAt, at_after, at_longer_list, at_its_end}
use Rattle.words_machine.proofs.parts_lemmas.Accesses.{Has}
use Rattle.words_machine.proofs.parts_lemmas.Numbered.{each_map, each_both, IsNumbered, each_numbered, none_twice}

-- of the visits that have not begun no number is left out
all_unbegun : (count first number : ℕ) → first ≤ number → number < first + count → IsAmong number (unbegun_from first count)
all_unbegun zero first number from below = absurd (omega arith)
all_unbegun (suc count) first number from below = dite (ℕ_discrete first number) inl (λ ne. inr (all_unbegun count (first + 1) number (omega arith) (omega arith)))

-- so what the first seat's view says is so
shows_opening : (n seat : ℕ) (v : SplitterView) → get_elem? ((undealt_from 0 n) ∷ []) seat ≡ some v → Shows n (λ _. 0) (λ _. Outside) (λ _. 0) seat v
shows_opening n zero v e = subst (Shows n (λ _. 0) (λ _. Outside) (λ _. 0) 0) (some-injective (undealt_from 0 n) v e) (
  each_map (IsNumbered (λ (w : Visit). w.number) fresh_visit 0 n) (IsShown n (λ _. 0) (λ _. Outside) (λ _. 0) 0 (undealt_from 0 n))
      (λ t x. record { seats_are = refl; in_range = x.below; own = refl; stage_is = ap (λ (w : Visit). w.stage) x.is; turn_is = ap (λ (w : Visit). w.turn) x.is; meets = subst (λ (w : Visit). Meets n (λ _. Outside) (λ _. 0) w w.stage) x.is refl }) (unbegun_from 0 (n - 0)) (each_numbered (λ (w : Visit). w.number) fresh_visit (λ number. refl) (n - 0) 0 n (omega arith)),
  none_twice (λ (w : Visit). w.number) fresh_visit (λ number. refl) (n - 0) 0,
)
shows_opening n (suc seat) v e = absurd (some-ne-none v (sym e))

-- a table opens under the rule
pub opens : (S : Type 0) (n : ℕ) → KeepsRule {S = S} n (opening (0 ∷ 0 ∷ []) [] (undealt_from 0 n))
opens S n = record {
  x = 0;
  y = 0;
  words_are = refl;
  stage = λ _. Outside;
  lawful = record { door = lawful_new 0; seated = λ name e. absurd (cc); begun = λ ne. absurd (ne refl) };
  turn = λ _. 0;
  last = λ word e. absurd (cc);
  seat_of = λ _. 0;
  held = λ number lt. (undealt_from 0 n, refl, all_unbegun (n - 0) 0 number (omega arith) (omega arith));
  shown = shows_opening n;
}

-- a visit that another seat makes is shown where only k changes its seat
pub elsewhere : (n k new seat : ℕ) (seat_of : ℕ → ℕ) (stage : ℕ → VisitStage) (turn : ℕ → ℕ) (u : SplitterView) (v : Visit) → v.number ≢ k → IsShown n seat_of stage turn seat u v → IsShown n (set_at seat_of k new) stage turn seat u v
elsewhere n k new seat seat_of stage turn u v ne x = record { seats_are = x.seats_are; in_range = x.in_range; own = set_at-other seat_of k new v.number ne ∙ x.own; stage_is = x.stage_is; turn_is = x.turn_is; meets = x.meets }

-- and so is the whole view of a seat that k does not leave
pub shows_elsewhere : (n k new seat : ℕ) (seat_of : ℕ → ℕ) (stage : ℕ → VisitStage) (turn : ℕ → ℕ) (u : SplitterView) → seat_of k ≢ seat → Shows n seat_of stage turn seat u → Shows n (set_at seat_of k new) stage turn seat u
shows_elsewhere n k new seat seat_of stage turn u ne s = (
  each_map (IsShown n seat_of stage turn seat u) (IsShown n (set_at seat_of k new) stage turn seat u)
      (λ t x. elsewhere n k new seat seat_of stage turn u t (λ e. ne (ap seat_of (sym e) ∙ x.own)) x) u.visits s.0,
  s.1,
)

-- the rule with other views, each of which is so
pub with_views : (n : ℕ) (words : List ℕ) (views others : List SplitterView) (h : IsKept n words views) (seat_of : ℕ → ℕ) →
    ((number : ℕ) → number < n → IsHeld others (seat_of number) number) → ((seat : ℕ) (v : SplitterView) → get_elem? others seat ≡ some v → Shows n seat_of h.stage h.turn seat v) → IsKept n words others
with_views n words views others h seat_of held shown =
    record { x = h.x; y = h.y; words_are = h.words_are; stage = h.stage; lawful = h.lawful; turn = h.turn; last = h.last; seat_of = seat_of; held = held; shown = shown }

-- the first visit goes to a new seat
module _ {S : Type 0} (n seat m : ℕ) (v : Visit) (rest : List Visit) where
  pub first_dealt : Splits {S = S} {V = SplitterView} (KeepsRule n) seat (view_of m (v ∷ rest)) (view_of m rest) (view_of m (v ∷ []))
  first_dealt s h e =
      let old : Shows n h.seat_of h.stage h.turn seat (view_of m (v ∷ rest)) = h.shown seat (view_of m (v ∷ rest)) e in
      let left : SplitterView = view_of m rest in
      let right : SplitterView = view_of m (v ∷ []) in
      let new : ℕ = length (set s.views seat left) in
      let seat_of : ℕ → ℕ = set_at h.seat_of v.number new in
      let kept_left : Shows n seat_of h.stage h.turn seat left = (
        each_both (IsShown n h.seat_of h.stage h.turn seat (view_of m (v ∷ rest))) (λ t. t.number ≢ v.number) (IsShown n seat_of h.stage h.turn seat left)
            (λ t x ne. record { seats_are = x.seats_are; in_range = x.in_range; own = set_at-other h.seat_of v.number new t.number ne ∙ x.own; stage_is = x.stage_is; turn_is = x.turn_is; meets = x.meets })
            rest old.0.1 old.1.0,
        old.1.1,
      ) in
      let moved = old.0.0 in
      let kept_right : Shows n seat_of h.stage h.turn new right = (
        (record { seats_are = moved.seats_are; in_range = moved.in_range; own = set_at-same h.seat_of v.number new; stage_is = moved.stage_is; turn_is = moved.turn_is; meets = moved.meets }, tt),
        (tt, tt),
      ) in
      with_views n s.words s.views (set s.views seat left ++ right ∷ []) h seat_of
      (λ number lt. set_at-cases h.seat_of v.number new (HoldsAt (Has number) (set s.views seat left ++ right ∷ [])) number
      (λ same. at_its_end (Has number) (set s.views seat left) right (inl (sym same)))
      (λ other. at_longer_list (Has number) (set s.views seat left) right (h.seat_of number)
      (at_after (Has number) s.views seat (view_of m (v ∷ rest)) left e (⊎_elim (λ same. absurd (other (sym same))) (λ among. among)) (h.seat_of number) (h.held number lt))))
      (each_pushed (Shows n seat_of h.stage h.turn) (set s.views seat left) right
      (each_set (Shows n seat_of h.stage h.turn) s.views seat left kept_left
      (λ j u other at. shows_elsewhere n v.number new j h.seat_of h.stage h.turn u (λ z. other (sym z ∙ moved.own)) (h.shown j u at)))
      kept_right)

-- the visit of the least number that is not yet dealt out comes first
pub least_first : (number seats : ℕ) → number < seats → undealt_from number seats ≡ view_of seats (fresh_visit number ∷ unbegun_from (number + 1) (seats - (number + 1)))
least_first number seats h = let e : seats - number ≡ suc (seats - (number + 1)) = omega arith in ap (λ count. view_of seats (unbegun_from number count)) e

module _ (number seats : ℕ) (h : number < seats) (before : Me ℕ SplitterView) (is : before ≡ (undealt_from number seats, [])) where
  -- and it goes to a new seat
  pub may_deal : (n seat : ℕ) → Splits {S = ℕ} {V = SplitterView} (KeepsRule n) seat before.0 (view_of before.0.seats (drop 1 before.0.visits)) (view_of before.0.seats (take 1 before.0.visits))
  may_deal n seat = subst (λ (v : SplitterView). Splits {S = ℕ} {V = SplitterView} (KeepsRule n) seat v (view_of v.seats (drop 1 v.visits)) (view_of v.seats (take 1 v.visits)))
      (sym (ap (λ (me : Me ℕ SplitterView). me.0) is ∙ least_first number seats h)) (first_dealt n seat seats (fresh_visit number) (unbegun_from (number + 1) (seats - (number + 1))))

  -- what is left with the seat that was dealt from
  pub left_over : (after : Me ℕ SplitterView) → after ≡ (view_of before.0.seats (drop 1 before.0.visits), before.1) → after ≡ (undealt_from (number + 1) seats, [])
  left_over after left = left ∙ ap (λ (me : Me ℕ SplitterView). (view_of me.0.seats (drop 1 me.0.visits), me.1)) is ∙ ap (λ (v : SplitterView). (view_of v.seats (drop 1 v.visits), [])) (least_first number seats h)
