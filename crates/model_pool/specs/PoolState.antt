-- what a contract sees of a pool
use Rattle.std.specs.Prelude.{ℕ, List}
use Rattle.model_steps.specs.RegisterState.{Registers}
use Rattle.model_pool.specs.declared.competitor.Competitor.{Competitor}

-- how a pool begins: the most numbers that it may get, and its size
pub record PoolStart : Type 0 where
  pub most : ℕ
  pub size : ℕ

-- the most numbers that it may get; the size, which is the largest number; the bits, by their numbers; and the
-- competitors in the order of entering
pub record PoolState : Type 0 where
  pub most : ℕ
  pub size : ℕ
  pub bits : Registers (Unit {0})
  pub competitors : List Competitor
