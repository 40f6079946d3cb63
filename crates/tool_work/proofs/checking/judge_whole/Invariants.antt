use Rattle.std.proofs.Common.{◌≡◌, ◌+◌, length}
use Rattle.text_player.specs.declared.playing.TheConstants.{READ_BYTES}
use Rattle.tool_work.proofs.ReadLemmas.{HasReadAndTaken}
use Rattle.tool_work.proofs.checking.judge_whole.Given as goal

abbrev pub invariant-loop-reads : goal.invariant-loop-reads
invariant-loop-reads g l = record {
  came : HasReadAndTaken (g.R.Read.remaining l.fn.reader) (g.R.Read.remaining l.reader) l.judge;
  chunk : length l.chunk ≡ READ_BYTES;
  reads : g.R.Source.calls l.reader ≡ g.R.Source.calls l.fn.reader + l._reads;
  no_read_failed : g.R.Source.failed l.reader ≡ g.R.Source.failed l.fn.reader;
}
