use Rattle.service_loop.proofs.PoolLemmas.{pools_same, pools_same_then}
use Rattle.service_loop.proofs.pools.welcome_all.Goals as goal

pub loop-init : goal.loop-init
loop-init g c = record { same = pools_same c.args.pools.now }

pub loop-preserved : goal.loop-preserved
loop-preserved g c = record { same = pools_same_then c.args.pools.now c.loop.pools c.welcome_at.new.pools c.loop.invariant.same c.in_ok-welcome_at.ensures }

pub returns-after-loop : goal.returns-after-loop
returns-after-loop g c = c.loop.invariant.same

pub returns-in_default : goal.returns-in_default
returns-in_default g c = c.loop.invariant.same
