-- the statements of this crate's laws, each under a name
use Rattle.model_splitter.specs.Visitor.{visitor_steps}
use Rattle.model_steps.specs.Registers.{memory_steps}
use Rattle.model_steps.specs.Locality.{Indistinguishable, StandAlike}
use Rattle.std.specs.Prelude.{◌≡◌, ◌+◌, ◌≤◌, ◌⊎◌, false, ℕ, Option, Some, None, IsSome}
use Rattle.model_splitter.specs.declared.stage.VisitStage.{VisitStage}
use Rattle.model_splitter.specs.declared.stage.VisitStage.TheVariants.{Gone}
use Rattle.model_splitter.specs.declared.way.Way.TheVariants.{Right, Down}
use Rattle.model_splitter.specs.Walk.{gone_on, note_at_door, place_at_door, accesses_at}
use Rattle.model_splitter.specs.Invariant.{DoorSatisfiesSpec}
use Rattle.model_splitter.specs.Machine.{SplitterState, world_after_step}
use Rattle.model_splitter.specs.Stage.{went_right, went_down, x_after, y_after, stage_after}
use Rattle.model_steps.specs.Calls.{outcome_in}
use Rattle.model_steps.specs.SetAt.{set_at}

-- an access of a visit keeps the invariant of its splitter
abbrev pub DoorSpec : Type 0
DoorSpec =
    (x y : ℕ) (stage : ℕ → VisitStage) (p : ℕ) → DoorSatisfiesSpec x y stage →
    DoorSatisfiesSpec (x_after p (stage p) x) (y_after (stage p) y) (set_at stage p (stage_after p (stage p) x y))

-- after its visit a walk is still at its door, or before the next door to the right or down
abbrev pub GoesOn : (W : Type 0) → Type 0
GoesOn W =
    (here : VisitStage → W) (right down : W) (s : VisitStage) →
    ((went_right s ≡ false) × (went_down s ≡ false) × (gone_on here right down s ≡ here s))
    ⊎ (((s ≡ Gone Right) × (gone_on here right down s ≡ right)) ⊎ ((s ≡ Gone Down) × (gone_on here right down s ≡ down)))

-- the note of a walk at door k has the place at which the walk then is, if any
abbrev pub TellsPlace : (W : Type 0) → Type 0
TellsPlace W =
    (here : VisitStage → W) (right down : W) (place_of : W → Option ℕ) (k : ℕ) (s : VisitStage) → place_of (here s) ≡ place_at_door k s →
    place_of right ≡ None → place_of down ≡ None → outcome_in (note_at_door k s) ≡ place_of (gone_on here right down s)

-- no two participants have one place, if each door keeps its invariant
abbrev pub HasOneAtPlace : Type 0
HasOneAtPlace =
    (x_of y_of : ℕ → ℕ) (stage : ℕ → ℕ → VisitStage) → ((k : ℕ) → DoorSatisfiesSpec (x_of k) (y_of k) (stage k)) →
    (p q i j place : ℕ) → place_at_door i (stage i p) ≡ Some place → place_at_door j (stage j q) ≡ Some place → p ≡ q

-- a walk that has made four accesses at a door, and has not left it, has its place
abbrev pub FourthPlaces : Type 0
FourthPlaces = (k : ℕ) (s : VisitStage) → 4 ≤ accesses_at s → went_right s ≡ false → went_down s ≡ false → IsSome (place_at_door k s)

-- each access of a visit that has not ended is one more
abbrev pub CountsOneMore : Type 0
CountsOneMore =
    (p : ℕ) (s : VisitStage) (x y k : ℕ) → place_at_door k s ≡ None → went_right s ≡ false → went_down s ≡ false →
    (accesses_at s + 1 ≤ accesses_at (stage_after p s x y)) × (accesses_at s ≤ 3)

-- in each world that the participant cannot distinguish from the old one, its step leaves it in the same state as in
-- the new one
abbrev pub StaysAlike : SplitterState → SplitterState → ℕ → Type 0
StaysAlike old new id = (other : SplitterState) → Indistinguishable visitor_steps memory_steps id old other → StandAlike id new (world_after_step other id)
