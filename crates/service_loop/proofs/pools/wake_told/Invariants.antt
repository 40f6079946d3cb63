use Rattle.service_loop.specs.Pools.{AreSamePools}
use Rattle.service_loop.proofs.pools.wake_told.Given as goal

abbrev pub invariant-loop : goal.invariant-loop
invariant-loop g l = record { same : AreSamePools l.fn.pools l.pools }
