use Rattle.service_loop.proofs.PoolLemmas.{pools_same, pools_same_then}
use Rattle.service_loop.proofs.pools.are_over.Goals as goal

pub loop-at-init : goal.loop-at-init
loop-at-init g c = record { same = pools_same c.args.pools.now }

pub loop-at-preserved : goal.loop-at-preserved
loop-at-preserved g c = record { same = pools_same_then c.args.pools.now c.loop-at.pools c.is_over_at.new.pools c.loop-at.invariant.same c.is_over_at.ensures }
