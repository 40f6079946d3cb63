-- what calls with their replies show of each participant
use Rattle.std.specs.Prelude.{◌≡◌, ℕ, ◌≤◌, List, Option}
use Rattle.model_steps.specs.Calls.{Call, outcome_of, steps_of}

-- the state of each participant has its outcome, and bounds on the number of its accepted steps
pub record Tells {Z O : Type 0} (say : Z → Option O) (least most : Z → ℕ) (stands : ℕ → Z) (r : List (Call (Option O))) : Type 0 where
  pub outcomes : (p : ℕ) → outcome_of p r ≡ say (stands p)
  pub at_least : (p : ℕ) → least (stands p) ≤ steps_of p r
  pub at_most : (p : ℕ) → steps_of p r ≤ most (stands p)
