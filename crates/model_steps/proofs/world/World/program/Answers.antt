use Rattle.std.proofs.Common.{refl, ap}
use Rattle.model_steps.proofs.cited.Roster as roster
use Rattle.model_steps.proofs.world.World.program.Goals as goal

pub returns-in_default : goal.returns-in_default
returns-in_default g c =
    rw (roster.absent (λ v. v.identity) (λ v. v) c.args.id c.args.self.now.participants c.deref.ensures.value (ap (λ w. w.participants) c.self.view_is) c.in_default.ensures.answer) refl

pub returns : goal.returns
returns g c =
    let f = roster.found (λ v. v.identity) (λ v. v) c.args.id c.args.self.now.participants c.in-Some.i c.index.result.now c.deref.ensures.value (ap (λ w. w.participants) c.self.view_is) c.in-Some.ensures.answer c.index.ensures in
    rw f.is refl
