use Rattle.service_loop.specs.Pools.{PoolsWereAttended}
use Rattle.service_loop.specs.SharedBuffers.{AreShared}
use Rattle.service_loop.proofs.pools.serve_all.Given as goal

abbrev pub invariant-loop-at : goal.invariant-loop-at
invariant-loop-at g l = record {
  room : AreShared l.shared;
  attended : PoolsWereAttended g.D.Service.may g.K.Persist.prefetches g.K.Persist.persists g.K.Persist.waits g.K.Persist.shares g.K.Persist.holds l.fn.pools l.pools;
}
