use Rattle.service_hall.specs.Rebuilt.{GoesOn}
use Rattle.service_hall.proofs.plan.hold_below.Given as goal

abbrev pub invariant-loop-below : goal.invariant-loop-below
invariant-loop-below l = GoesOn l.initial.new l.new
