-- the doors that a list of calls enters. Moves are quiet, so calls and replies alone do not show it, and the worlds
-- between them are needed
use Rattle.std.specs.Prelude.{◌≡◌, ◌≢◌, ◌↔◌, ℕ, List, Option, Some, Ok, Err}
use Rattle.model_steps.specs.Count.{count_to}
use Rattle.model_steps.specs.Participant.{program_of}
use Rattle.model_steps.specs.Registers.{memory_steps}
use Rattle.model_steps.specs.Machine.{OnEveryHistory}
use Rattle.model_steps.specs.Runs.{HappensFrom}
use Rattle.model_steps.specs.Calls.{Call, next, outcome_in}
use Rattle.model_steps.specs.Calls.Call.{Began, Stepped}
use Rattle.model_splitter.specs.declared.grid.walker.Walker.{Walker}
use Rattle.model_splitter.specs.grid.Door.{number_of}
use Rattle.model_splitter.specs.grid.Walk.{walk_of, walker_steps}
use Rattle.model_splitter.specs.grid.Invariant.{x_in, was_entered}
use Rattle.model_splitter.specs.grid.Machine.{GridState, fresh, grid, doors_for}

-- the call is an accepted step of a participant at door k
abbrev pub Enters : GridState → Call (Option ℕ) → ℕ → Type 0
Enters w (Began id reply) k = ⊥
Enters w (Stepped id (Err refusal)) k = ⊥
Enters w (Stepped id (Ok outcome)) k = (u : Walker) × (program_of id w.participants ≡ Some u) × (number_of u.door ≡ k)

-- one of these calls, made one after another from this world on, enters door k
abbrev pub EntersFrom : GridState → List (Call (Option ℕ)) → ℕ → Type 0
EntersFrom w r k = HappensFrom (next walker_steps memory_steps outcome_in walk_of) (λ u h. Enters u h k) w r

-- door k of a fresh grid was entered over these calls
abbrev pub WasEntered : ℕ → List (Call (Option ℕ)) → ℕ → Type 0
WasEntered most r k = EntersFrom (fresh most) r k

-- after any calls that lead to this world, X of a door is not 0 if and only if the door was entered
abbrev pub ShowsWhatWasEntered : GridState → Type 0
ShowsWhatWasEntered w = OnEveryHistory grid (λ most r. (k : ℕ) → (x_in w.memory k ≢ 0) ↔ WasEntered most r k) w

-- how many doors were entered
abbrev pub entered_count : GridState → ℕ
entered_count w = count_to (was_entered w.memory) (doors_for w.most)
