use Rattle.std.proofs.Common.{◌≡◌, ◌≤◌, ◌+◌, ◌*◌, ◌++◌, length}
use Rattle.text_lines.specs.held.Held.{lines_behind}
use Rattle.text_lines.proofs.held.telling.put_lines.Given as goal

-- the lines so far
abbrev pub invariant-loop-at : goal.invariant-loop-at
invariant-loop-at g l = record {
  text : l.out ≡ l.fn.out ++ lines_behind l.slots l.before l.at;
  few : length l.out ≤ length l.fn.out + 63 * l.at;
}
