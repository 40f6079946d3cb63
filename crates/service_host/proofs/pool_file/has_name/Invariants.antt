use Rattle.std.proofs.Common.{◌≢◌, ◌<◌, ℕ, slice_index_or}
use Rattle.service_host.specs.declared.pool_file.PoolPlan.{PoolPlan}
use Rattle.service_host.proofs.pool_file.has_name.Given as goal

-- none of the pools before has the name
abbrev pub invariant-loop-pool : goal.invariant-loop-pool
invariant-loop-pool l = (k : ℕ) → k < l.pool-index → (d : PoolPlan) → (slice_index_or l.pools k d).name.now ≢ l.name
