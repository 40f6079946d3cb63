use Rattle.std.proofs.Common.{◌+◌, ◌-◌, ◌≤◌}
use Rattle.tool_work.proofs.drawn_lemmas.Common.{begins_from, PlaysFrom}
use Rattle.tool_work.proofs.drawn.runs.take_begins.Given as goal

abbrev pub invariant-loop-before : goal.invariant-loop-before
invariant-loop-before g l = record {
  on : PlaysFrom (begins_from 1 l.ids) l.fn.desk l.fn.tally (begins_from (l.before + 1) (l.ids - l.before)) l.desk l.tally;
  begun : l.tally.begun ≤ l.fn.tally.begun + l.before;
  named : l.tally.named ≤ l.fn.tally.named + l.before;
  spent : l.tally.spent ≤ l.fn.tally.spent + l.before;
}
