use Rattle.service_hall.specs.Rebuilt.{GoesOn}
use Rattle.service_hall.proofs.wide_plan.dismiss.Given as goal

abbrev pub invariant-loop-id : goal.invariant-loop-id
invariant-loop-id l = GoesOn l.initial.new l.new
