-- the specification of renaming, over calls and their replies alone
use Rattle.std.specs.Prelude.{◌≡◌, ℕ, ◌-◌, ◌*◌, ◌≤◌, List, Some}
use Rattle.model_steps.specs.Calls.{Call}
use Rattle.model_steps.specs.Distinct.{AreDistinct}
use Rattle.model_snapshot.specs.Snapshot.{SnapBounds}
use Rattle.model_renaming.specs.Reply.{StepReply}
use Rattle.model_renaming.specs.RenameObject.{RenameTerms, RenameObject, IsRun}
use Rattle.model_renaming.specs.Pace.{IsPaced}
use Rattle.model_renaming.specs.Alone.{IsNamedAlone}
use Rattle.model_renaming.specs.Ends.{EndsAmong}

-- The replies are those of the renaming object, in order. No two participants have one name, and if b have begun, each
-- name is from 1 to 2b - 1. The replies to each identity are in their order, within their bounds. A participant with
-- two proposals left that runs solo is named within a bound. Each is named or spent within a bound, whatever the others
-- do
pub record RenameSpec (terms : RenameTerms) (bounds : SnapBounds) (r : List (Call StepReply)) : Type 0 where
  pub object : RenameObject
  pub run : IsRun terms r object
  pub one_to_one : AreDistinct object.name
  pub in_range : (p n : ℕ) → object.name p ≡ Some n → (1 ≤ n) × (n ≤ 2 * object.many - 1)
  pub paced : IsPaced bounds r
  pub alone : IsNamedAlone terms bounds r
  pub ends : EndsAmong terms bounds object r
