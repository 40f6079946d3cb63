-- what a contract sees of slots
use Rattle.std.specs.Prelude.{List}
use Rattle.model_pool.specs.PoolState.{PoolState}

-- the pool, and the values: that of number n is at place n - 1
pub record SlotsState (T : Type 0) : Type 0 where
  pub pool : PoolState
  pub values : List T
