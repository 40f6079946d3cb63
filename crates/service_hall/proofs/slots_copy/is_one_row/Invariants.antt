use Rattle.std.proofs.Common.{◌≡◌, take}
use Rattle.service_hall.proofs.slots_copy.is_one_row.Given as goal

abbrev pub invariant-loop-i : goal.invariant-loop-i
invariant-loop-i l = take l.i l.row ≡ take l.i l.other
