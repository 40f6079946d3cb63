-- the replies of a grid's world, and its state after each call
use Rattle.std.specs.Prelude.{◌≤◌, ℕ, ◌+◌, ◌*◌, ◌/◌, false, [], Option, Result, replicate, is_some}
use Rattle.model_steps.specs.declared.refusal.Refusal.{Refusal}
use Rattle.model_steps.specs.RegisterState.{Registers}
use Rattle.model_steps.specs.Registers.{memory_steps}
use Rattle.model_steps.specs.WorldState.{WorldState}
use Rattle.model_steps.specs.World.{step_answer, after_step}
use Rattle.model_steps.specs.Participant.{program_of}
use Rattle.model_steps.specs.Calls.{Call, outcome_in, reply_of}
use Rattle.model_steps.specs.Machine.{Machine}
use Rattle.model_steps.specs.WorldMachine.{WorldParts, world_machine}
use Rattle.model_splitter.specs.grid.Law.{GridSpec}
use Rattle.model_splitter.specs.declared.grid.walker.Walker.{Walker}
use Rattle.model_splitter.specs.grid.Walk.{walk_of, walker_steps, place_by}

-- the registers, the most participants, and their walks
abbrev pub GridState : Type 0
GridState = WorldState (Registers ℕ) Walker

-- two registers for each door: X holds 0, and Y is clear
abbrev pub empty_doors : ℕ → Registers ℕ
empty_doors most = record { first = 0; values = replicate (most * (most + 1)) 0; bits = replicate 0 false }

-- a grid that no one has entered
abbrev pub fresh : ℕ → GridState
fresh most = record { memory = empty_doors most; most = most; participants = [] }

-- what a step answers: the place, once the walk ends
abbrev pub step_reply : GridState → ℕ → Result (Option ℕ) Refusal
step_reply w id = reply_of outcome_in (step_answer walker_steps memory_steps w id)

-- the world after a step
abbrev pub world_after_step : GridState → ℕ → GridState
world_after_step w id = after_step walker_steps memory_steps w id

-- a grid's world, of at most 64 participants, and what it keeps
abbrev pub grid_parts : WorldParts Walker (Registers ℕ) ℕ ℕ ℕ (Option ℕ)
grid_parts = record {
  program = walker_steps;
  memory = memory_steps;
  shown = outcome_in;
  start = walk_of;
  last = is_some;
  grows = false;
  MayStart = λ most. most ≤ 64;
  empty = empty_doors;
  Spec = GridSpec;
}

abbrev pub grid : Machine ℕ GridState (Call (Option ℕ))
grid = world_machine grid_parts

-- the place at which the walk of an identity has ended
abbrev pub place_in : GridState → ℕ → Option ℕ
place_in w id = place_by (program_of id w.participants)

-- the number of doors of a grid for this many participants
abbrev pub doors_for : ℕ → ℕ
doors_for most = most * (most + 1) / 2
