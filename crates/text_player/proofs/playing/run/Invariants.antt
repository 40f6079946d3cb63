use Rattle.std.proofs.Common.{◌≡◌, ◌+◌, ◌*◌, ◌≤◌, false, ℕ, List, []}
use Rattle.text_player.proofs.Common.{Consumes, READ_BYTES, TURN_ROOM, at_start, after_bytes, Stands}
use Rattle.text_player.proofs.playing.run.Given as goal

abbrev pub invariant-loop-reads : goal.invariant-loop-reads
invariant-loop-reads g l = record {
  bytes : List ℕ;
  came : Consumes (g.R.Read.remaining l.fn.reader) (g.R.Read.remaining l.reader) bytes;
  stands : Stands g.D.Service.may g.F.Form.text l.fn.world l.world l.player (after_bytes l.fn.player.kind at_start bytes) (g.W.Write.contents l.fn.writer) (g.W.Write.contents l.writer);
  empty : l.player.replies ≡ [];
  kind : l.player.kind ≡ l.fn.player.kind;
  lines : l.player.summary.lines ≤ READ_BYTES * l.reads;
  reads : g.R.Source.calls l.reader ≡ g.R.Source.calls l.fn.reader + l.reads;
  writes : g.W.Sink.calls l.writer ≤ g.W.Sink.calls l.fn.writer + TURN_ROOM * READ_BYTES * l.reads;
  going : l.player.over ≡ false;
  no_read_failed : g.R.Source.failed l.reader ≡ g.R.Source.failed l.fn.reader;
  no_write_failed : g.W.Sink.failed l.writer ≡ g.W.Sink.failed l.fn.writer;
}
