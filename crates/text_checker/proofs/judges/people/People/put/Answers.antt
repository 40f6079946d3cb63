use Rattle.std.proofs.Common.{◌≡◌, set, refl, sym, ap, ◌∙◌}
use Rattle.model_steps.specs.Participant.{beginner}
use Rattle.model_steps.proofs.cited.Found.{Found}
use Rattle.model_steps.proofs.cited.Roster as roster
use Rattle.model_steps.proofs.cited.DistinctParticipants.{distinct_there}
use Rattle.text_checker.proofs.judges_lemmas.seats.People.{put_nowhere}
use Rattle.text_checker.proofs.judges.people.People.put.Goals as goal
use Rattle.text_checker.proofs.judges.people.People.put.Goals.{After-index_mut}

pub returns-in_default : goal.returns-in_default
returns-in_default g c =
    sym (put_nowhere c.args.self.now (beginner c.args.id c.args.program) (roster.absent (λ v. v.identity) (λ v. v) c.args.id c.args.self.now c.deref.ensures.value c.self.view_is c.in_default.ensures.answer))

found : (g : _) (c : After-index_mut g) → Found c.args.id c.args.self.now c.in-Some.i c.index_mut.result.now
found g c = roster.found (λ v. v.identity) (λ v. v) c.args.id c.args.self.now c.in-Some.i c.index_mut.result.now c.deref.ensures.value c.self.view_is c.in-Some.ensures.answer c.index_mut.ensures.value

pub returns : goal.returns
returns g c =
    let f = found g (goal.at.returns g c).After-index_mut in
    let new = beginner c.args.id c.args.program in
    ap (λ l. set l c.in-Some.i new) c.self.view_is ∙ sym (f.put new refl)

pub invariant_of-self : goal.invariant_of-self
invariant_of-self g c =
    let f = found g (goal.at.invariant_of-self g c).After-index_mut in
    distinct_there c.args.id c.in-Some.i c.index_mut.result.now (beginner c.args.id c.args.program) c.deref.ensures.value c.in-Some.ensures.answer c.index_mut.ensures.value (sym f.identity) c.self.invariant
