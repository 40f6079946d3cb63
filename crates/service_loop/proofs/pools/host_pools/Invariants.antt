use Rattle.service_loop.specs.Pools.{PoolsWereAttended}
use Rattle.service_loop.specs.SharedBuffers.{AreShared}
use Rattle.service_loop.proofs.pools.host_pools.Given as goal

-- nothing else was done so far to any pool
abbrev pub invariant-loop : goal.invariant-loop
invariant-loop g l = record {
  room : AreShared l.shared;
  attended : PoolsWereAttended g.D.Service.may g.K.Persist.prefetches g.K.Persist.persists g.K.Persist.waits g.K.Persist.shares g.K.Persist.holds l.fn.pools l.pools;
}
