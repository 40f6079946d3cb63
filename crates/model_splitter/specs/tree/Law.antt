-- the specification of the tree's places, over calls and their replies
use Rattle.std.specs.Prelude.{◌≡◌, ℕ, ◌*◌, ◌<◌, ◌≤◌, List, Option, Some, IsSome, is_some}
use Rattle.model_steps.specs.Calls.{Call, outcome_of, steps_of, begun_in}
use Rattle.model_steps.specs.Distinct.{AreDistinct}
use Rattle.model_steps.specs.Due.{EndsOnce}
use Rattle.model_splitter.specs.tree.Depth.{IsNodeWithin}

-- Let b have begun. Places are distinct, and are nodes of depths below b. No participant makes more than 5b accepted
-- steps on the way to its place, and one that has made 5b, and any at all, has a place. No participant makes such a
-- step after it got its place
pub record TreeSpec (r : List (Call (Option ℕ))) : Type 0 where
  pub distinct : AreDistinct (λ p. outcome_of p r)
  pub within : (p place : ℕ) → outcome_of p r ≡ Some place → IsNodeWithin (begun_in r) place
  pub at_most : (p : ℕ) → steps_of p r ≤ 5 * begun_in r
  pub last_places : (p : ℕ) → 0 < steps_of p r → steps_of p r ≡ 5 * begun_in r → IsSome (outcome_of p r)
  pub ends_once : EndsOnce is_some r
