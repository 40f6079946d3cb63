use Rattle.std.proofs.Common.{◌≡◌, ◌+◌, ◌-◌, ◌≤◌, length, take}
use Rattle.std.specs.Io.KnownBytes.{Appends}
use Rattle.text_lines.proofs.sink.put_all.Given as goal

abbrev pub invariant-loop-at : goal.invariant-loop-at
invariant-loop-at g l = record {
  inside : l.at ≤ length l.text;
  written : Appends (g.W.Write.contents l.fn.writer) (g.W.Write.contents l.writer) (take l.at l.text);
  failed : g.W.Sink.failed l.writer ≡ g.W.Sink.failed l.fn.writer;
  calls : g.W.Sink.calls l.writer ≤ g.W.Sink.calls l.fn.writer + l.at;
}

abbrev pub decreases-loop-at : goal.decreases-loop-at
decreases-loop-at g l = length l.text - l.at
