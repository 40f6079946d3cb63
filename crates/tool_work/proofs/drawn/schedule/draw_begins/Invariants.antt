use Rattle.std.proofs.Common.{◌≡◌, ◌+◌, ◌-◌, ◌*◌, ◌≤◌, length}
use Rattle.tool_work.proofs.drawn_lemmas.Common.{begins_from, event_lines, GoesFrom}
use Rattle.tool_work.proofs.drawn.schedule.draw_begins.Given as goal

abbrev pub invariant-loop-before : goal.invariant-loop-before
invariant-loop-before g l = record {
  on : GoesFrom (event_lines (begins_from 1 l.ids)) (g.W.Write.contents l.fn.writer) l.fn.held (event_lines (begins_from (l.before + 1) (l.ids - l.before))) (g.W.Write.contents l.writer) l.held;
  unfailed : g.W.Sink.failed l.writer ≡ g.W.Sink.failed l.fn.writer;
  calls : g.W.Sink.calls l.writer + length l.held ≤ g.W.Sink.calls l.fn.writer + length l.fn.held + 46 * l.before;
}
