-- connections that are answered, one after another
use Rattle.std.proofs.Common.{◌≡◌, inl, inr, ℕ, ◌<◌, set, List, length, get_or, Option, Some, None, refl, sym, ap, subst, ◌∙◌}
use Rattle.service_loop.proofs.Common.{get_or-set_same, get_or-set_other, length-set, cases_eq}
use Rattle.service_loop.specs.Answering.{SeatAnswers, SeatAnswered, QueriesAnswered}
use Rattle.service_loop.specs.Asking.{MayAnswer}
use Rattle.service_loop.specs.Seats.{Seating}
use Rattle.service_loop.specs.declared.terms.Query.{Query}

some_same : {C : Type 0} (c d : C) → Some c ≡ Some d → c ≡ d
some_same c d e = cc

module _ {C : Type 0} (on : Seating C) (answer : Query → List ℕ) where
  pub seat_unasked : (x : Option C) → SeatAnswers on answer x x
  seat_unasked None = tt
  seat_unasked (Some c) = (inl refl, refl, refl)

  pub seat_answered : (Due : C → Type 0) (key : ℕ) (seats : List (Option C)) (was is : C) → key < length seats → get_or seats key None ≡ Some was → Due was → (Due is → ⊥) →
      MayAnswer answer (on.buffers was) (on.buffers is) → on.left is ≡ on.left was → on.gone is ≡ on.gone was → SeatAnswered on answer Due key seats (set seats key (Some is))
  seat_answered Due key seats was is below there due done answers unread unsent = record {
    was = was;
    is = is;
    was_there = there;
    is_there = get_or-set_same seats key (Some is) None below;
    due = due;
    done = done;
    answers = (answers, unread, unsent);
    others = λ i other. get_or-set_other seats key i (Some is) None other;
    many = length-set seats key (Some is);
  }

  module _ (Due : C → Type 0) (seats : List (Option C)) where
    -- so far, where whoever has still to be answered is as before
    pub record Answering (seats' : List (Option C)) : Type 0 where
      pub answered : QueriesAnswered on answer seats seats'
      pub waiting : (i : ℕ) (c : C) → get_or seats' i None ≡ Some c → Due c → get_or seats i None ≡ Some c

    pub answering_none : Answering seats
    answering_none = record {
      answered = record { each = λ i. seat_unasked (get_or seats i None); many = refl };
      waiting = λ i c is due. is;
    }

    pub answering_on : (seats' seats'' : List (Option C)) (key : ℕ) → Answering seats' → SeatAnswered on answer Due key seats' seats'' → Answering seats''
    answering_on seats' seats'' key so turn =
        let was = so.waiting key turn.was turn.was_there turn.due in
        record {
          answered = record {
            each = λ i. elim (cases_eq i key) as (λ _. SeatAnswers on answer (get_or seats i None) (get_or seats'' i None)) [
              | inl same ↦ subst (λ (k : ℕ). SeatAnswers on answer (get_or seats k None) (get_or seats'' k None)) (sym same) (rw (was, turn.is_there) turn.answers)
              | inr other ↦ rw (turn.others i other) (so.answered.each i)
            ];
            many = turn.many ∙ so.answered.many;
          };
          waiting = λ i c is due. elim (cases_eq i key) as (λ _. get_or seats i None ≡ Some c) [
            | inl same ↦ absurd (turn.done (subst Due (some_same c turn.is (sym is ∙ ap (λ (k : ℕ). get_or seats'' k None) same ∙ turn.is_there)) due))
            | inr other ↦ so.waiting i c (sym (turn.others i other) ∙ is) due
          ];
        }
