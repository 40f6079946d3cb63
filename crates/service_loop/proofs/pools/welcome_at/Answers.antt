use Rattle.service_loop.proofs.PoolLemmas.{pools_same, pools_same_set}
use Rattle.service_loop.proofs.pools.welcome_at.Goals as goal

pub returns-in_ok-welcome : goal.returns-in_ok-welcome
returns-in_ok-welcome g c = pools_same_set c.args.pools.now c.args.arrival.pool c.index-pools-pool.result c.welcome.new.self c.in_ok-welcome.ensures

pub returns-else-pool-pools : goal.returns-else-pool-pools
returns-else-pool-pools g c = pools_same c.args.pools.now
