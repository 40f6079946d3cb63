use Rattle.service_hall.specs.Rebuilt.{GoesOn}
use Rattle.service_hall.proofs.wide_plan.hold_all.Given as goal

abbrev pub invariant-loop-at : goal.invariant-loop-at
invariant-loop-at l = GoesOn l.initial.new l.new
