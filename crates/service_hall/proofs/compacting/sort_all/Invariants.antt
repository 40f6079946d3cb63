use Rattle.service_hall.specs.Rebuilt.{IsSorted}
use Rattle.service_hall.proofs.compacting.sort_all.Given as goal

abbrev pub invariant-loop-place : goal.invariant-loop-place
invariant-loop-place l = IsSorted l.hall l.place l.new l.old
