use Rattle.service_loop.proofs.PoolLemmas.{pools_same, pools_same_then}
use Rattle.service_loop.proofs.pools.wake_first.Goals as goal

pub loop-at-init : goal.loop-at-init
loop-at-init g c = record { same = pools_same c.args.pools.now }

pub loop-at-preserved : goal.loop-at-preserved
loop-at-preserved g c = record { same = pools_same_then c.args.pools.now c.loop-at.pools c.wake_at.new.pools c.loop-at.invariant.same c.wake_at.ensures }
