-- the specification of the slots, over calls and their replies alone
use Rattle.std.specs.Prelude.{◌≡◌, List, length}
use Rattle.model_pool.specs.PoolState.{PoolStart}
use Rattle.model_pool.specs.Law.{PoolSpec}
use Rattle.model_pool.specs.slots.SlotCalls.{SlotCall, pool_calls}
use Rattle.model_pool.specs.slots.SlotsObject.{SlotsObject, IsSlotsRun}

-- The replies are those of the pool and slots as one object, in order. Those of the pool satisfy its specification, and
-- there is a slot for each number
pub record SlotsSpec {T : Type 0} (start : PoolStart) (values : List T) (r : List (SlotCall T)) : Type 0 where
  pub object : SlotsObject T
  pub run : IsSlotsRun start values r object
  pub pool : PoolSpec start (pool_calls r)
  pub slots : length object.values ≡ object.pool.size
