use Rattle.std.proofs.Common.{◌≡◌, ◌++◌, replicate}
use Rattle.service_hall.proofs.slots_copy.lengthen.Given as goal

abbrev pub invariant-loop-i : goal.invariant-loop-i
invariant-loop-i l = l.values.items ≡ l.initial.values.items ++ replicate l._i 0
