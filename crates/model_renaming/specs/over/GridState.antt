-- what a contract sees of a grid with segments
use Rattle.std.specs.Prelude.{ℕ, List, Option}
use Rattle.model_steps.specs.RegisterState.{Registers}
use Rattle.model_steps.specs.declared.record.Record.{Record}

-- the registers of the doors, the segments by their places from 0, and the most participants
pub record GridState : Type 0 where
  pub doors : Registers ℕ
  pub segments : List (Option Record)
  pub most : ℕ
