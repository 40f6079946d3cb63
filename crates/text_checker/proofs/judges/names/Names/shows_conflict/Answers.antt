use Rattle.std.proofs.Common.{refl, ◌∙◌, Some, None, sym, subst, List, ℕ, Option}
use Rattle.text_checker.proofs.judges_lemmas.Common.{false≢true, TellsSince}
use Rattle.text_checker.proofs.judges_lemmas.seats.People.{there}
use Rattle.text_checker.proofs.judges_lemmas.seats.Rows.{conflict_shown, no_conflict}
use Rattle.text_checker.proofs.judges.names.Names.shows_conflict.Goals as goal

pub returns-in-Some-row_since : goal.returns-in-Some-row_since
returns-in-Some-row_since c = λ terms o h some.
    let is = there c.args.id c.find.ensures refl c.in-Some.is in
    let tells : TellsSince o h.turns.rows c.in-Some.standing.turn.since c.args.view.now (Some c.in-Some-row_since.row) =
    subst (λ (x : Option (List ℕ)). TellsSince o h.turns.rows c.in-Some.standing.turn.since c.args.view.now x) c.in-Some-row_since.is (c.row_since.ensures terms o h) in
    let w = conflict_shown terms c.args.self.now o c.args.id c.in-Some.standing h is some c.args.view.now c.in-Some-row_since.row tells in
    ((λ y. w.0 (sym c.is_crowded.ensures ∙ y)), (λ k. c.is_crowded.ensures ∙ w.1 k))

pub returns-in-None : goal.returns-in-None
returns-in-None c = λ terms o h some.
    let is = there c.args.id c.find.ensures refl c.in-Some.is in
    let none : TellsSince o h.turns.rows c.in-Some.standing.turn.since c.args.view.now None =
    subst (λ (x : Option (List ℕ)). TellsSince o h.turns.rows c.in-Some.standing.turn.since c.args.view.now x) c.in-None.is (c.row_since.ensures terms o h) in (
      (λ y. absurd (false≢true y)),
      (λ k. absurd (no_conflict terms c.args.self.now o c.args.id c.in-Some.standing h is some c.args.view.now none k)),
    )
