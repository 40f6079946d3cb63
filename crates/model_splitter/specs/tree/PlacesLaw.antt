-- what the calls of a tree's world have to do with places
use Rattle.std.specs.Prelude.{ℕ, List, [], ◌∷◌, Option, Some, None}
use Rattle.model_steps.specs.declared.participant.Participant.{Participant}
use Rattle.model_steps.specs.Participant.{participant_of}
use Rattle.model_steps.specs.Calls.{Call}
use Rattle.model_steps.specs.Calls.Call.{Began, Stepped}
use Rattle.model_splitter.specs.declared.tree.client.Client.{Client}
use Rattle.model_splitter.specs.declared.tree.walker.Walker.{Walker}
use Rattle.model_splitter.specs.tree.TreeCalls.{TreeCall}
use Rattle.model_splitter.specs.tree.TreeCalls.TreeCall.{Began as TreeBegan, Stepped as TreeStepped, Stored, CollectBegan, CollectStepped}
use Rattle.model_splitter.specs.tree.Law.{TreeSpec}

-- the calls of `begin` and `step` among these: the way to the places
abbrev pub way_calls : List TreeCall → List (Call (Option ℕ))
way_calls [] = []
way_calls (TreeBegan id reply ∷ r) = Began id reply ∷ way_calls r
way_calls (TreeStepped id reply ∷ r) = Stepped id reply ∷ way_calls r
way_calls (Stored id value reply ∷ r) = way_calls r
way_calls (CollectBegan id reply ∷ r) = way_calls r
way_calls (CollectStepped id reply ∷ r) = way_calls r

-- the specification of the places, which does not depend on stores and collects
abbrev pub PlacesSpec : List TreeCall → Type 0
PlacesSpec r = TreeSpec (way_calls r)

abbrev pub walker_in : Option (Participant Client) → Option Walker
walker_in None = None
walker_in (Some v) = Some v.program.walker

-- the walk of each identity
abbrev pub walkers : List (Participant Client) → ℕ → Option Walker
walkers ps p = walker_in (participant_of p ps)
