use Rattle.std.proofs.Common.{below_more, arith, sym, ◌∙◌}
use Rattle.service_host.proofs.PoolFileLemmas.{differs_by}
use Rattle.service_host.proofs.pool_file.has_name.Goals as goal

pub loop-pool-preserved : goal.loop-pool-preserved
loop-pool-preserved c = below_more _ _ c.loop-pool.invariant (differs_by c.args.pools.now c.loop-pool.pool-index _ c.args.name.now c.loop-pool-test.true (sym c.eq.ensures ∙ c.if-eq.false))

pub returns : goal.returns
returns c = λ no k d few. c.loop-pool.invariant k (let test = c.loop-pool-test.false in omega (arith, few, test)) d
