-- how soon a participant is named in a solo run (this project's profile)
use Rattle.std.specs.Prelude.{◌≡◌, ℕ, ◌+◌, ◌*◌, ◌<◌, ◌≤◌, ◌⊎◌, true, false, is_some, List, [], ◌∷◌, ◌++◌, None, Ok, Err}
use Rattle.model_steps.specs.Calls.{Call, steps_of}
use Rattle.model_steps.specs.Calls.Call.{Began, Stepped}
use Rattle.model_snapshot.specs.Snapshot.{SnapBounds}
use Rattle.model_renaming.specs.Reply.{StepReply}
use Rattle.model_renaming.specs.RenameObject.{RenameTerms, RenameObject, IsRun}

-- the call is no accepted step of another than p
abbrev pub LeavesAlone : ℕ → Call StepReply → Type 0
LeavesAlone p (Began q reply) = Unit {0}
LeavesAlone p (Stepped q (Ok said)) = q ≡ p
LeavesAlone p (Stepped q (Err why)) = Unit {0}

-- none of these calls is. Others may begin
abbrev pub StepsAlone : ℕ → List (Call StepReply) → Type 0
StepsAlone p [] = Unit {0}
StepsAlone p (h ∷ r) = LeavesAlone p h × StepsAlone p r

-- p has begun, is neither named nor spent, and has two proposals left
pub record HasTwoLeft (terms : RenameTerms) (o : RenameObject) (p : ℕ) : Type 0 where
  pub begun : o.begun p ≡ true
  pub unnamed : o.name p ≡ None
  pub unspent : o.spent p ≡ false
  pub left : o.count p + 2 ≤ terms.limit

-- the most steps of a participant in a solo run until it is named. They take it to its place, through the rest of a
-- scan that it began among others, and through two rounds of an update and a scan
abbrev pub steps_alone : SnapBounds → ℕ
steps_alone bounds = bounds.placing bounds.most + 11 * bounds.collecting + 1

-- p has a name. Or it is not spent, so that its steps go on, and it has made fewer than `most` among these calls
abbrev pub IsNamedWithin : ℕ → RenameObject → ℕ → List (Call StepReply) → Type 0
IsNamedWithin most now p more = (is_some (now.name p) ≡ true) ⊎ ((now.spent p ≡ false) × (steps_of p more < most))

-- cut these calls in two at any point. A participant that has two proposals left there, and then runs solo, is named at
-- its `steps_alone`-th step after the cut, or earlier
abbrev pub IsNamedAlone : RenameTerms → SnapBounds → List (Call StepReply) → Type 0
IsNamedAlone terms bounds r = (before more : List (Call StepReply)) (o now : RenameObject) (p : ℕ) → before ++ more ≡ r → IsRun terms before o → IsRun terms r now →
    HasTwoLeft terms o p → StepsAlone p more → IsNamedWithin (steps_alone bounds) now p more
