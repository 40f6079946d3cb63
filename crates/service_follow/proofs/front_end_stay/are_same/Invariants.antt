use Rattle.std.proofs.Common.{◌≡◌, take}
use Rattle.service_follow.proofs.front_end_stay.are_same.Given as goal

abbrev pub invariant-loop-i : goal.invariant-loop-i
invariant-loop-i l = take l.i l.kept ≡ take l.i l.other
