use Rattle.std.proofs.Common.{ap}
use Rattle.model_pool.proofs.Common.{PoolState}
use Rattle.model_pool.proofs.RosterLemmas.{stay_within}
use Rattle.model_pool.proofs.pool.Pool.stay_of.Goals as goal

pub returns-clause-within : goal.returns-clause-within
returns-clause-within g c =
    rw (← ap (λ (w : PoolState). w.size) c.self.view_is) (stay_within c.self.inside.size c.args.id c.self.inside.competitors.competitors c.stay_of.result c.self.invariant.stays c.stay_of.ensures)
