use Rattle.std.proofs.Common.{ap}
use Rattle.model_pool.proofs.cited.slots.SlotsKeep.{pool_after}
use Rattle.model_pool.proofs.slots.slots.Slots.pool.Goals as goal

pub returns-clause-after : goal.returns-clause-after
returns-clause-after g c = λ first r a. rw (ap (λ s. s.pool) c.self.view_is) (pool_after c.args.self.now first r a)
