use Rattle.std.proofs.Common.{◌≡◌, take, true}
use Rattle.text_records.proofs.Common.{list_all, is_plain}
use Rattle.text_records.proofs.plain_line.plain_length.Given as goal

abbrev pub invariant-loop-i : goal.invariant-loop-i
invariant-loop-i l = list_all is_plain (take l.i l.bytes) ≡ true
