use Rattle.std.proofs.Common.{◌≡◌, ◌++◌, ◌∷◌, [], None, is_some, sym, ap, ◌∙◌, subst}
use Rattle.model_steps.specs.Participant.{beginner, participant_of, program_of, AreDistinct}
use Rattle.model_steps.proofs.cited.DistinctParticipants.{distinct_push}
use Rattle.text_checker.proofs.judges_lemmas.Common.{false≢true}
use Rattle.text_checker.proofs.judges_lemmas.seats.People.{absent, none_kept}
use Rattle.text_checker.proofs.judges.people.People.push.Goals as goal

pub returns-then-is_some : goal.returns-then-is_some
returns-then-is_some g c = λ none. absurd (false≢true (ap is_some (sym (c.find.ensures ∙ none)) ∙ sym c.is_some.ensures ∙ c.if-is_some.true))

pub invariant_of-self : goal.invariant_of-self
invariant_of-self g c = subst AreDistinct (sym c.in_err-push.ensures.items) c.self.invariant

pub invariant_of-self-2 : goal.invariant_of-self-2
invariant_of-self-2 g c =
    let new = beginner c.args.id c.args.program in
    let none : program_of c.args.id c.args.self.now ≡ None = sym c.find.ensures ∙ absent c.find.result (sym c.is_some.ensures ∙ c.if-is_some.false) in
    let items : c.push.new.self.items ≡ c.args.self.now ++ new ∷ [] = c.in_ok-push.ensures.items ∙ ap (λ l. l ++ new ∷ []) c.self.view_is in
    subst AreDistinct (sym items) (distinct_push c.args.self.now new (none_kept (participant_of c.args.id c.args.self.now) none) (subst AreDistinct c.self.view_is c.self.invariant))
