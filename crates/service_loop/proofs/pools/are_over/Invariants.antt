use Rattle.service_loop.specs.Pools.{AreSamePools}
use Rattle.service_loop.proofs.pools.are_over.Given as goal

abbrev pub invariant-loop-at : goal.invariant-loop-at
invariant-loop-at g l = record { same : AreSamePools l.fn.pools l.pools }
