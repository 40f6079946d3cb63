use Rattle.service_loop.specs.Pools.{PoolsWereAttended}
use Rattle.service_loop.proofs.PoolLemmas.{pools_attended_none, pools_attended_set}
use Rattle.service_loop.proofs.pools.serve_at.Goals.{then-at-pools+in_ok-go_round, else-at-pools}
use Rattle.service_loop.proofs.pools.serve_at.Goals as goal

pub returns-clause-attended : goal.returns-clause-attended
returns-clause-attended g c =
    elim c.if-at-pools.branch as (λ _. PoolsWereAttended g.D.Service.may g.K.Persist.prefetches g.K.Persist.persists g.K.Persist.waits g.K.Persist.shares g.K.Persist.holds c.args.pools.now c.if-at-pools.pools) [
      | then-at-pools+in_ok-go_round w ↦ rw w.pools-is (pools_attended_set g.D.Service.may g.K.Persist.prefetches g.K.Persist.persists g.K.Persist.waits g.K.Persist.shares g.K.Persist.holds
          c.args.pools.now c.args.at w.index-pools-at.result w.go_round.new.self w.in_ok-go_round.ensures.attended)
      | else-at-pools w ↦ rw w.pools-is (pools_attended_none g.D.Service.may g.K.Persist.prefetches g.K.Persist.persists g.K.Persist.waits g.K.Persist.shares g.K.Persist.holds c.args.pools.now)
    ]
