use Rattle.service_loop.proofs.RoundLemmas.{ok_then}
use Rattle.service_loop.proofs.PoolLemmas.{pools_same_then}
use Rattle.service_loop.proofs.pools.PoolServer.let_in.Goals as goal

pub returns : goal.returns
returns g c =
    let before = c.args.pools.now in
    let woken = pools_same_then before c.wake_told.new.pools c.wake_first.new.pools c.wake_told.ensures c.wake_first.ensures in
    ok_then c.welcome_all.result _ _ (λ same. pools_same_then before c.wake_first.new.pools c.welcome_all.new.pools woken same) c.welcome_all.ensures
