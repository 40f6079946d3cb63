use Rattle.std.proofs.Common.{◌≡◌, ◌≤◌, ◌+◌, ◌*◌, ◌++◌, length, take}
use Rattle.service_loop.specs.WatchLines.{change_lines}
use Rattle.service_loop.proofs.watch_line.put_lines.Given as goal

-- so many lines are appended
abbrev pub invariant-loop-change : goal.invariant-loop-change
invariant-loop-change g l = record {
  text : l.out ≡ l.fn.out ++ change_lines (take l.change-index l.changes);
  short : length l.out ≤ length l.fn.out + 63 * l.change-index;
}
