-- the specification of recursive renaming (Gafni and Rajsbaum 2010), over calls and their replies
use Rattle.std.specs.Prelude.{◌≡◌, ℕ, ◌+◌, ◌*◌, ◌<◌, ◌≤◌, List, Option, Some, IsSome, is_some}
use Rattle.model_steps.specs.Calls.{Call, outcome_of, steps_of, begun_in}
use Rattle.model_steps.specs.Distinct.{AreDistinct}
use Rattle.model_steps.specs.Due.{EndsOnce}

-- Let b have begun, of m seats. Names are distinct, and from 1 to 2b - 1. No seat makes more than m(m + 1) steps, and one
-- that has made as many has a name. No seat makes a step after it got its name
pub record NamingSpec (most : ℕ) (r : List (Call (Option ℕ))) : Type 0 where
  pub distinct : AreDistinct (λ p. outcome_of p r)
  pub within : (p name : ℕ) → outcome_of p r ≡ Some name → (1 ≤ name) × (name + 1 ≤ 2 * begun_in r)
  pub at_most : (p : ℕ) → steps_of p r ≤ most * (most + 1)
  pub last_names : (p : ℕ) → 0 < steps_of p r → steps_of p r ≡ most * (most + 1) → IsSome (outcome_of p r)
  pub ends_once : EndsOnce is_some r
