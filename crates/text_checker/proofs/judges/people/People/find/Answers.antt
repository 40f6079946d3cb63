use Rattle.std.proofs.Common.{refl}
use Rattle.model_steps.proofs.cited.Roster as roster
use Rattle.text_checker.proofs.judges.people.People.find.Goals as goal

pub returns-in_default : goal.returns-in_default
returns-in_default g c = rw (roster.absent (λ v. v.identity) (λ v. v) c.args.id c.args.self.now c.deref.ensures.value c.self.view_is c.in_default.ensures.answer) refl

pub returns : goal.returns
returns g c =
    let f = roster.found (λ v. v.identity) (λ v. v) c.args.id c.args.self.now c.in-Some.i c.index.result.now c.deref.ensures.value c.self.view_is c.in-Some.ensures.answer c.index.ensures in
    rw f.is refl
