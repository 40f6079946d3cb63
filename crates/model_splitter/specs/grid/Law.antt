-- the specification of the grid (Moir and Anderson 1995), over calls and their replies
use Rattle.std.specs.Prelude.{◌≡◌, ℕ, ◌*◌, ◌<◌, ◌≤◌, List, Option, Some, IsSome, is_some}
use Rattle.model_steps.specs.Calls.{Call, outcome_of, steps_of, begun_in}
pub use Rattle.model_steps.specs.Distinct.{AreDistinct}
use Rattle.model_steps.specs.Due.{EndsOnce}
use Rattle.model_splitter.specs.grid.Door.{IsDoorWithin}

-- Let b have begun. Places are distinct. Row and column of the door of a place are together at most b - 1. No
-- participant makes more than 4b accepted steps, and one that has made 4b, and any at all, has a place. No participant
-- makes a step after it got its place
pub record GridSpec (r : List (Call (Option ℕ))) : Type 0 where
  pub distinct : AreDistinct (λ p. outcome_of p r)
  pub within : (p place : ℕ) → outcome_of p r ≡ Some place → IsDoorWithin (begun_in r) place
  pub at_most : (p : ℕ) → steps_of p r ≤ 4 * begun_in r
  pub last_places : (p : ℕ) → 0 < steps_of p r → steps_of p r ≡ 4 * begun_in r → IsSome (outcome_of p r)
  pub ends_once : EndsOnce is_some r
