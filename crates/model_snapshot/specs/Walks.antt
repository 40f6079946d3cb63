-- what a walk over segments reads, and what comes of it
use Rattle.std.specs.Prelude.{ℕ, Bool, Option}
use Rattle.model_steps.specs.declared.record.Record.{Record}

-- a walk of type K over registers R that hold values V
pub record WalkSteps (K R V : Type 0) : Type 0 where
  pub next : K → R
  pub place : K → Option ℕ
  pub resumed : K → V → K
  pub is_over : K → V → Bool
  pub segment : ℕ → R
  pub stored : Option Record → V
  pub content : V → Option Record
