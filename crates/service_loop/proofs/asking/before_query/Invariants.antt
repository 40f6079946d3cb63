use Rattle.std.proofs.Common.{◌≡◌, ◌≤◌, ◌<◌, ◌-◌, length, not, true, take}
use Rattle.text_lines.specs.Lines.{whole_lines}
use Rattle.service_loop.specs.Asking.{none_own, IsLineStart}
use Rattle.service_loop.specs.Reported.{behind}
use Rattle.service_loop.proofs.asking.before_query.Given as goal

abbrev pub invariant-loop-at : goal.invariant-loop-at
invariant-loop-at l = record {
  inside : l.at ≤ length l.bytes;
  starts : l.at < length l.bytes → IsLineStart l.fn.begins l.bytes l.at;
  own : none_own (behind (not l.fn.begins) (whole_lines (take l.at l.bytes))) ≡ true;
}

abbrev pub decreases-loop-at : goal.decreases-loop-at
decreases-loop-at l = length l.bytes - l.at
