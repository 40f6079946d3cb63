use Rattle.service_hall.specs.Rebuilt.{GoesOn}
use Rattle.service_hall.proofs.wide_plan.enter_all.Given as goal

abbrev pub invariant-loop-competitor : goal.invariant-loop-competitor
invariant-loop-competitor l = GoesOn l.initial.new l.new
