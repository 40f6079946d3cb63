-- what a contract sees of a write-ahead hall
use Rattle.std.specs.Prelude.{ℕ}
use Rattle.service_hall.specs.HallState.{HallState}

-- a hall, and how many events of its history were committed to a journal
pub record WriteAheadState : Type 0 where
  pub hall : HallState
  pub reported : ℕ
