use Rattle.std.proofs.Common.{take, map}
use Rattle.service_lock.specs.Marks.{AreMarked}
use Rattle.service_lock.proofs.matching.mark_each.Given as goal

abbrev pub invariant-loop-caller : goal.invariant-loop-caller
invariant-loop-caller g l = AreMarked l.hall.history l.initial.marks l.marks l.left l.now (map g.C.Caller.kept (take l.caller-index l.callers.items))
