-- the law of a grid over shared atomic words (Moir and Anderson 1995), of one walk, and of a table that keeps the rule
use Rattle.std.specs.Prelude.{◌≡◌, ◌≢◌, ℕ, ◌+◌, ◌-◌, ◌*◌, ◌/◌, ◌<◌, ◌≤◌, true, List, Option, Some}
use Rattle.model_steps.specs.Calls.{begun_in}
use Rattle.model_steps.specs.Participant.{program_of}
use Rattle.model_steps.specs.RegisterState.{Registers}
use Rattle.model_splitter.specs.Invariant.{IsSplitter}
use Rattle.model_splitter.specs.Stage.{has_entered, has_set, went_right, went_down}
use Rattle.model_splitter.specs.declared.grid.door.Door.{Door}
use Rattle.model_splitter.specs.declared.grid.walker.Walker.{Walker}
use Rattle.model_splitter.specs.grid.Door.{IsDoorWithin}
use Rattle.model_splitter.specs.grid.Invariant.{DoorsAgree, x_in, y_in}
use Rattle.model_splitter.specs.grid.Machine.{place_in}
use Rattle.words_machine.specs.declared.seat_view.SeatView.{SeatView}
use Rattle.words_machine.specs.RunRule.{IsRunning}
use Rattle.words_machine.specs.lemmas.Walks.{walk_law}
use Rattle.words_machine.specs.grid.Seats.{EndedWalk, place_of}

-- the accesses of a walk from the corner to the door at which it stops: two at each door that it left to the right, which
-- are as many as its row, four at each that it left down, which are as many as its column, and four at its own
abbrev pub accesses_to : Door → ℕ
accesses_to door = 2 * (door.depth - door.column) + 4 * door.column + 4

-- One walk, where b have begun when it ends, itself among them: its door is on one of the first b diagonals, so its place is among the first
-- b(b + 1)/2, and it made at most 4b accesses; exactly, as many as lead to its door
pub record WalkSpec (e : EndedWalk) : Type 0 where
  pub counted : e.entered ≤ e.grid.most
  pub within : IsDoorWithin e.entered (place_of e)
  pub low : place_of e < e.entered * (e.entered + 1) / 2
  pub accesses : e.accesses ≡ accesses_to e.door
  pub at_most : e.accesses ≤ 4 * e.entered

-- the rule of a grid's table: some list of calls of the grid's machine leads to registers that the words spell
abbrev pub IsGridTable : ℕ → List ℕ → List (SeatView Walker ℕ) → Type 0
IsGridTable most words views = IsRunning walk_law most words views

-- the places at which walks have ended, in a table that keeps the rule: no two walks have one
abbrev pub PlacesAreDistinct : Type 0
PlacesAreDistinct =
    (most : ℕ) (words : List ℕ) (views : List (SeatView Walker ℕ)) (kept : IsGridTable most words views) (p q place : ℕ) →
    place_in kept.w p ≡ Some place → place_in kept.w q ≡ Some place → p ≡ q

-- each is on one of the first diagonals, as many as walks have begun
abbrev pub PlacesAreLow : Type 0
PlacesAreLow =
    (most : ℕ) (words : List ℕ) (views : List (SeatView Walker ℕ)) (kept : IsGridTable most words views) (p place : ℕ) →
    place_in kept.w p ≡ Some place → IsDoorWithin (begun_in kept.r) place

-- b walks have begun, and the doors in these registers agree with them. Each door is a splitter. Who left a door to the right did so where
-- another had set Y of it, and who left it down, where another had entered it
pub record SplitsAtDoors (b : ℕ) (m : Registers ℕ) (walker : ℕ → Option Walker) : Type 0 where
  pub agree : DoorsAgree b b (x_in m) (y_in m) walker
  pub splits : (door : ℕ) → IsSplitter (agree.stage door)
  pub right : (door p : ℕ) → went_right (agree.stage door p) ≡ true → (q : ℕ) × (q ≢ p) × (has_set (agree.stage door q) ≡ true)
  pub down : (door p : ℕ) → went_down (agree.stage door p) ≡ true → (q : ℕ) × (q ≢ p) × (has_entered (agree.stage door q) ≡ true)

-- so it is of the walks and of the registers that the words of a table spell
abbrev pub DoorsSplit : Type 0
DoorsSplit =
    (most : ℕ) (words : List ℕ) (views : List (SeatView Walker ℕ)) (kept : IsGridTable most words views) →
    (kept.w.memory.values ≡ words) × SplitsAtDoors (begun_in kept.r) kept.w.memory (λ p. program_of p kept.w.participants)
