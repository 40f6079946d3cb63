-- what a contract sees of a desk
use Rattle.std.specs.Prelude.{ℕ}
use Rattle.model_renaming.specs.RenameState.{RenameState}
use Rattle.model_pool.specs.slots.SlotsState.{SlotsState}

-- a renaming world, and slots over a pool
pub record DeskState (S U K : Type 0) : Type 0 where
  pub names : RenameState S U K
  pub slots : SlotsState ℕ
