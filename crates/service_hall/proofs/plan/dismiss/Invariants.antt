use Rattle.service_hall.specs.Rebuilt.{GoesOn}
use Rattle.service_hall.proofs.plan.dismiss.Given as goal

abbrev pub invariant-loop-helper : goal.invariant-loop-helper
invariant-loop-helper l = GoesOn l.initial.new l.new
