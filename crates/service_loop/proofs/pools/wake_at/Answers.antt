use Rattle.service_loop.proofs.PoolLemmas.{pools_same, pools_same_set}
use Rattle.service_loop.proofs.pools.wake_at.Goals as goal

pub returns-then-at-pools : goal.returns-then-at-pools
returns-then-at-pools g c = pools_same_set c.args.pools.now c.args.at c.index-pools-at.result c.wake.new.self c.wake.ensures

pub returns-else-at-pools : goal.returns-else-at-pools
returns-else-at-pools g c = pools_same c.args.pools.now
