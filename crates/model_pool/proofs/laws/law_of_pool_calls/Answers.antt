use Rattle.model_pool.proofs.cited.PoolKeeps.{may_widen, pool_proved}
use Rattle.model_pool.proofs.laws.law_of_pool_calls.Goals as goal

pub returns : goal.returns
returns c = record { machine = pool_proved; wider = may_widen }
