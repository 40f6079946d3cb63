use Rattle.std.proofs.Common.{◌≡◌, ◌∙◌, Bool, true, false, not, Some, None, refl, sym, ap, subst, List, ℕ, Option}
use Rattle.text_checker.proofs.judges_lemmas.Common.{false≢true, ShowsSole, TellsSince}
use Rattle.text_checker.proofs.judges_lemmas.seats.People.{there}
use Rattle.text_checker.proofs.judges_lemmas.seats.Rows.{sole_shown, no_sole, sole_number}
use Rattle.text_checker.proofs.judges.names.Names.shows_sole.Goals as goal

not_true : (b : Bool) → not b ≡ true → b ≡ false
not_true true h = absurd (false≢true h)
not_true false h = refl

pub returns-then-from-number : goal.returns-then-from-number
returns-then-from-number c = λ terms o h some.
    let is = there c.args.id c.find.ensures refl c.in-Some.is in (
      (λ y. absurd (false≢true y)),
      (λ k. absurd (c.if-from-number.true (c.from.ensures ∙ sole_number terms c.args.self.now o c.args.id c.in-Some.standing h is some c.args.view.now c.args.number k))),
    )

pub returns-in-Some-row_since : goal.returns-in-Some-row_since
returns-in-Some-row_since c = λ terms o h some.
    let is = there c.args.id c.find.ensures refl c.in-Some.is in
    let same : c.in-Some.standing.turn.number ≡ c.args.number = sym c.from.ensures ∙ c.if-from-number.false in
    let tells : TellsSince o h.turns.rows c.in-Some.standing.turn.since c.args.view.now (Some c.in-Some-row_since.row) =
    subst (λ (x : Option (List ℕ)). TellsSince o h.turns.rows c.in-Some.standing.turn.since c.args.view.now x) c.in-Some-row_since.is (c.row_since.ensures terms o h) in
    let w = sole_shown terms c.args.self.now o c.args.id c.in-Some.standing h is some c.args.view.now c.in-Some-row_since.row tells in (
      (λ y. subst (λ (n : ℕ). ShowsSole o c.args.id n c.args.view.now) same (w.0 (sym c.is_crowded.ensures ∙ not_true c.is_crowded.result y))),
      (λ k. ap not (c.is_crowded.ensures ∙ w.1 (subst (λ (n : ℕ). ShowsSole o c.args.id n c.args.view.now) (sym same) k))),
    )

pub returns-in-None : goal.returns-in-None
returns-in-None c = λ terms o h some.
    let is = there c.args.id c.find.ensures refl c.in-Some.is in
    let none : TellsSince o h.turns.rows c.in-Some.standing.turn.since c.args.view.now None =
    subst (λ (x : Option (List ℕ)). TellsSince o h.turns.rows c.in-Some.standing.turn.since c.args.view.now x) c.in-None.is (c.row_since.ensures terms o h) in (
      (λ y. absurd (false≢true y)),
      (λ k. absurd (no_sole terms c.args.self.now o c.args.id c.in-Some.standing h is some c.args.view.now c.args.number none k)),
    )
