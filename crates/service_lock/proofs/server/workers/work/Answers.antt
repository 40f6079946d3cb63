use Rattle.std.proofs.Common.{rules}
use Rattle.service_lock.proofs.server_lemmas.GoingOn.{goes_further}
use Rattle.service_lock.proofs.server.workers.work.Goals as goal

pub loop-preserved : goal.loop-preserved
loop-preserved g c = record {
  can = search rules;
  ends = search rules;
  gone = goes_further _ _ _ _ c.loop.invariant.gone c.serve_stream.ensures;
}
