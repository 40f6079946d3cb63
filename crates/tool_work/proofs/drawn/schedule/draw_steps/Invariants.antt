use Rattle.std.proofs.Common.{◌≡◌, ◌+◌, ◌-◌, ◌*◌, ◌≤◌, length}
use Rattle.tool_work.proofs.drawn_lemmas.Common.{opened, steps_drawn, event_lines, GoesFrom}
use Rattle.tool_work.proofs.drawn.schedule.draw_steps.Given as goal

abbrev pub invariant-loop-done : goal.invariant-loop-done
invariant-loop-done g l = record {
  on : GoesFrom (event_lines (steps_drawn l.plan.ids l.plan.steps (opened l.plan.seed))) (g.W.Write.contents l.fn.writer) l.fn.held (event_lines (steps_drawn l.plan.ids (l.plan.steps - l._done) l.words)) (g.W.Write.contents l.writer) l.held;
  unfailed : g.W.Sink.failed l.writer ≡ g.W.Sink.failed l.fn.writer;
  calls : g.W.Sink.calls l.writer + length l.held ≤ g.W.Sink.calls l.fn.writer + length l.fn.held + 46 * l._done;
}
