use Rattle.std.proofs.Common.{◌+◌, ◌-◌, ◌≤◌}
use Rattle.tool_work.proofs.drawn_lemmas.Common.{opened, steps_drawn, PlaysFrom}
use Rattle.tool_work.proofs.drawn.runs.take_steps.Given as goal

abbrev pub invariant-loop-done : goal.invariant-loop-done
invariant-loop-done g l = record {
  on : PlaysFrom (steps_drawn l.plan.ids l.plan.steps (opened l.plan.seed)) l.fn.desk l.fn.tally (steps_drawn l.plan.ids (l.plan.steps - l._done) l.words) l.desk l.tally;
  begun : l.tally.begun ≤ l.fn.tally.begun + l._done;
  named : l.tally.named ≤ l.fn.tally.named + l._done;
  spent : l.tally.spent ≤ l.fn.tally.spent + l._done;
}
