use Rattle.std.proofs.Common.{take}
use Rattle.service_lock.specs.Marks.{IsMarked}
use Rattle.service_lock.proofs.matching.mark_all.Given as goal

abbrev pub invariant-loop-i : goal.invariant-loop-i
invariant-loop-i l = IsMarked l.hall.history l.initial.marks l.marks (take l.i l.kept.items)
