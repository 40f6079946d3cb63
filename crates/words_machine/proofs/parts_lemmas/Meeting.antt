-- two seats become one and look under the rule; then the first visit is dealt out again
use Rattle.std.proofs.Common.{◌≡◌, ◌≢◌, ℕ, inl, inr, ⊎_elim, sym, refl, ap, ◌∙◌, [], ◌∷◌, ◌++◌, set, slice_set, slice_index}
use Rattle.words_machine.proofs.parts_lemmas.Common.{set-get_or, Me, Step, Allows, Joins, keeps, at_set, set_else, set_again, set_at, Visit, SplitterView, view_of, IsShown, Shows, IsKept, KeepsRule, set_at-cases, set_at-same}
use mathlib.Core.Option.{some}
use lib.ListN.{get_elem?}
use Rattle.words_machine.specs.parts.SplitterSteps.{Looks}
use Rattle.words_machine.proofs.parts_lemmas.Views.{each_set, there_still, HoldsAt, at_after}
use Rattle.words_machine.proofs.parts_lemmas.Accesses.{under_rule, Has}
use Rattle.words_machine.proofs.parts_lemmas.Dealing.{with_views, elsewhere, shows_elsewhere}

-- the view of a seat with one visit, and of one with two
abbrev pub single : ℕ → Visit → SplitterView
single m a = view_of m (a ∷ [])

abbrev pub double : ℕ → Visit → Visit → SplitterView
double m a b = view_of m (a ∷ b ∷ [])

module _ {S : Type 0} (n m seat : ℕ) (a b : Visit) where
  -- the visit of the other seat becomes this seat's, before its own
  pub may_unite : (other : ℕ) → Joins {S = S} {V = SplitterView} (KeepsRule n) seat (single m b) other (single m a) (double m a b) (view_of 0 [])
  may_unite other s h e apart e' =
      let was : get_elem? s.views other ≡ some (single m a) = ⊎_elim (λ t. absurd (apart t.0)) (λ t. t.1) (at_set s.views seat other (double m a b) (single m a) e') in
      let mine : IsShown n h.seat_of h.stage h.turn seat (single m b) b = (h.shown seat (single m b) e).0.0 in
      let theirs : IsShown n h.seat_of h.stage h.turn other (single m a) a = (h.shown other (single m a) was).0.0 in
      let differ : b.number ≢ a.number = λ g. apart (sym theirs.own ∙ ap h.seat_of (sym g) ∙ mine.own) in
      let seat_of : ℕ → ℕ = set_at h.seat_of a.number seat in
      let stays = elsewhere n a.number seat seat h.seat_of h.stage h.turn (single m b) b differ mine in
      let united : Shows n seat_of h.stage h.turn seat (double m a b) = (
        (
          record { seats_are = mine.seats_are; in_range = theirs.in_range; own = set_at-same h.seat_of a.number seat; stage_is = theirs.stage_is; turn_is = theirs.turn_is; meets = theirs.meets },
          (record { seats_are = mine.seats_are; in_range = mine.in_range; own = stays.own; stage_is = mine.stage_is; turn_is = mine.turn_is; meets = mine.meets }, tt),
        ),
        ((differ, tt), (tt, tt)),
      ) in
      let Now : ℕ → SplitterView → Type 0 = λ j u. j ≢ other → Shows n seat_of h.stage h.turn j u in
      let now = each_set Now s.views seat (double m a b) (λ _. united)
      (λ j u _ f far. shows_elsewhere n a.number seat j h.seat_of h.stage h.turn u (λ g. far (sym g ∙ theirs.own)) (h.shown j u f)) in
      with_views n s.words s.views (set (set s.views seat (double m a b)) other (view_of 0 [])) h seat_of
      (λ number lt. set_at-cases h.seat_of a.number seat (HoldsAt (Has number) (set (set s.views seat (double m a b)) other (view_of 0 []))) number
      (λ same. (double m a b, set_else (set s.views seat (double m a b)) other seat (view_of 0 []) (λ z. apart (sym z)) ∙ there_still s.views seat (single m b) e (double m a b), inl (sym same)))
      (λ away. at_after (Has number) (set s.views seat (double m a b)) other (single m a) (view_of 0 []) e'
      (⊎_elim (λ same. absurd (away (sym same))) (λ none. none)) (h.seat_of number)
      (at_after (Has number) s.views seat (single m b) (double m a b) e inr (h.seat_of number) (h.held number lt))))
      (each_set (Shows n seat_of h.stage h.turn) (set s.views seat (double m a b)) other (view_of 0 []) (tt, tt) (λ j u far f. now j u f far))

  -- a look changes nothing
  pub may_look : (slots word : ℕ) (st : Step S) → Allows {S = S} {V = SplitterView} (KeepsRule n) slots seat ((double m a b), []) word (λ f. f) (Looks st ((double m a b), []))
  may_look slots word st s h _ e _ =
      let same_words : slice_set s.words word (slice_index s.words word) ≡ s.words = set-get_or s.words word 0 in
      let same_views : set s.views seat (double m a b) ≡ s.views = set_again s.views seat (double m a b) e in
      let kept : IsKept n (slice_set s.words word (slice_index s.words word)) (set s.views seat (double m a b)) = rw (same_words, same_views) h in
      ((double m a b), keeps, tt, kept, (refl, under_rule n seat s.words s.views (double m a b) (h.shown seat (double m a b) e).0.0.seats_are h e, refl))

-- what a join leaves with the seat, where each of the two had one visit
pub united : (m : ℕ) (a b : Visit) (left right after : Me ℕ SplitterView) → left ≡ (single m a, []) → right ≡ (single m b, [])
    → after ≡ (view_of right.0.seats (left.0.visits ++ right.0.visits), right.1) → after ≡ (double m a b, [])
united m a b left right after l r joined = joined ∙ (λ i. (view_of (r i).0.seats ((l i).0.visits ++ (r i).0.visits), (r i).1))
