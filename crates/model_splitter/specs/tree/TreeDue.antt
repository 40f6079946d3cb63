-- the errors that are due to the calls of a tree's world, over calls with their replies alone (this project's profile)
use Rattle.std.specs.Prelude.{◌≡◌, ◌==◌, ◌&&◌, not, ℕ, Bool, true, false, if◌then◌else◌, List, [], ◌∷◌, ◌++◌, Option, Some, None, Ok, Err, is_some}
use Rattle.model_steps.specs.declared.refusal.Refusal.{Refusal}
use Rattle.model_steps.specs.declared.refusal.Refusal.TheVariants.{AlreadyBegun, NotBegun, Finished}
use Rattle.model_steps.specs.World.{done_unless}
use Rattle.model_steps.specs.Calls.Call.{Began as WayBegan, Stepped as WayStepped}
use Rattle.model_steps.specs.Due.{has_begun, has_ended, IsRefusedAsDue}
use Rattle.model_splitter.specs.tree.TreeCalls.{TreeCall}
use Rattle.model_splitter.specs.tree.TreeCalls.TreeCall.{Began, Stepped, Stored, CollectBegan, CollectStepped}
use Rattle.model_splitter.specs.tree.PlacesLaw.{way_calls}

-- whether p collects after this call, where it did so before it or not
abbrev pub collects_after : ℕ → Bool → TreeCall → Bool
collects_after p before (CollectBegan q (Ok done)) = if q == p then true else before
collects_after p before (CollectStepped q (Ok shown)) = if q == p then not (is_some shown) else before
collects_after p before t = before

abbrev pub collects_from : ℕ → Bool → List TreeCall → Bool
collects_from p before [] = before
collects_from p before (h ∷ r) = collects_from p (collects_after p before h) r

-- a collect of p is under way
abbrev pub collects : ℕ → List TreeCall → Bool
collects p r = collects_from p false r

-- p has its place
abbrev pub has_place : ℕ → List TreeCall → Bool
has_place p r = has_ended is_some p (way_calls r)

-- why `store` and `collect_begin` of p are refused after these calls: the first of these that holds
abbrev pub asking_due : List TreeCall → ℕ → Option Refusal
asking_due r p = if has_begun p (way_calls r) then (if has_place p r && not (collects p r) then None else Some AlreadyBegun) else Some NotBegun

-- why a step of p's collect is refused after these calls: the first of these that holds
abbrev pub collect_due : List TreeCall → ℕ → Option Refusal
collect_due r p = if has_begun p (way_calls r) then (if collects p r then None else Some Finished) else Some NotBegun

-- after these calls, a call returns an error if and only if that error is due. A step on the way to a place for which
-- none is due may fail because an allocation failed
abbrev pub IsTreeRefusedAsDue : ℕ → List TreeCall → TreeCall → Type 0
IsTreeRefusedAsDue most r (Began p reply) = IsRefusedAsDue is_some most true (way_calls r) (WayBegan p reply)
IsTreeRefusedAsDue most r (Stepped p reply) = IsRefusedAsDue is_some most true (way_calls r) (WayStepped p reply)
IsTreeRefusedAsDue most r (Stored p value reply) = reply ≡ done_unless (asking_due r p)
IsTreeRefusedAsDue most r (CollectBegan p reply) = reply ≡ done_unless (asking_due r p)
IsTreeRefusedAsDue most r (CollectStepped p (Ok shown)) = collect_due r p ≡ None
IsTreeRefusedAsDue most r (CollectStepped p (Err why)) = collect_due r p ≡ Some why

-- this holds of each call of the list, after those before it
abbrev pub TreeRefusesAsDue : ℕ → List TreeCall → Type 0
TreeRefusesAsDue most r = (before : List TreeCall) (h : TreeCall) (rest : List TreeCall) → r ≡ before ++ h ∷ rest → IsTreeRefusedAsDue most before h
