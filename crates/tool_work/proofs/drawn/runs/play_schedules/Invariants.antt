use Rattle.std.proofs.Common.{◌≡◌, ◌+◌, ◌*◌, ◌≤◌, [], length}
use Rattle.tool_work.proofs.drawn_lemmas.Common.{HasDrawn, IsUnderWay}
use Rattle.tool_work.proofs.drawn.runs.play_schedules.Given as goal

abbrev pub invariant-loop-run : goal.invariant-loop-run
invariant-loop-run g l = record {
  drawn : HasDrawn l.config l.plan.seed l.plan.ids l.plan.steps l.run (λ text. IsUnderWay text (g.W.Write.contents l.fn.writer) (g.W.Write.contents l.writer) l.held []);
  unfailed : g.W.Sink.failed l.writer ≡ g.W.Sink.failed l.fn.writer;
  calls : g.W.Sink.calls l.writer + length l.held ≤ g.W.Sink.calls l.fn.writer + 106 * l.run;
}
