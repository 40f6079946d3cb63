use Rattle.std.proofs.Common.{◌≡◌, ◌+◌, ◌*◌, ◌≤◌, ℕ, [], length}
use Rattle.tool_work.proofs.drawn_lemmas.Common.{Config, IsUnderWay}
use Rattle.tool_work.specs.drawn.Runs.{AreReported, HasDrawn}
use Rattle.tool_work.proofs.drawn.runs.write_tallies.Given as goal

abbrev pub invariant-loop-run : goal.invariant-loop-run
invariant-loop-run g l = record {
  drawn : (config : Config) (seed ids n : ℕ) → AreReported config seed ids n l.tallies → HasDrawn config seed ids n l.run (λ text. IsUnderWay text (g.W.Write.contents l.fn.writer) (g.W.Write.contents l.writer) l.held []);
  unfailed : g.W.Sink.failed l.writer ≡ g.W.Sink.failed l.fn.writer;
  calls : g.W.Sink.calls l.writer + length l.held ≤ g.W.Sink.calls l.fn.writer + 106 * l.run;
}
