-- the specification of the pool, over calls and their replies alone
use Rattle.std.specs.Prelude.{◌≡◌, ℕ, ◌≤◌, List, length, Some, true}
use Rattle.model_pool.specs.Calls.{Call}
use Rattle.model_pool.specs.PoolState.{PoolStart}
use Rattle.model_pool.specs.PoolObject.{PoolObject, IsRun, competes}

-- The replies are those of the pool object, begun so, in order. No more compete than there are numbers at
-- present. No two competitors hold one number, and each number held is one of these
pub record PoolSpec (start : PoolStart) (r : List Call) : Type 0 where
  pub object : PoolObject
  pub run : IsRun start r object
  pub crowd : length object.competing ≤ object.size
  pub by_competitors : (p n : ℕ) → object.held p ≡ Some n → competes object p ≡ true
  pub in_range : (p n : ℕ) → object.held p ≡ Some n → (1 ≤ n) × (n ≤ object.size)
  pub one_to_one : (p q n : ℕ) → object.held p ≡ Some n → object.held q ≡ Some n → p ≡ q
