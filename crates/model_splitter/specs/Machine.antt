-- the replies of a splitter's world, and its state after each call
use Rattle.std.specs.Prelude.{ℕ, [], Option, Result, replicate, false, is_some}
use Rattle.model_steps.specs.declared.refusal.Refusal.{Refusal}
use Rattle.model_steps.specs.RegisterState.{Registers}
use Rattle.model_steps.specs.Registers.{memory_steps}
use Rattle.model_steps.specs.WorldState.{WorldState}
use Rattle.model_steps.specs.World.{step_answer, after_step}
use Rattle.model_steps.specs.Calls.{Call, outcome_in, reply_of}
use Rattle.model_steps.specs.Machine.{Machine}
use Rattle.model_steps.specs.WorldMachine.{WorldParts, world_machine}
use Rattle.model_splitter.specs.declared.way.Way.{Way}
use Rattle.model_splitter.specs.declared.visitor.Visitor.{Visitor}
use Rattle.model_splitter.specs.Law.{SplitterSpec}
use Rattle.model_splitter.specs.Visitor.{visitor_at, visitor_steps}

-- the registers, the most participants, and their visits
abbrev pub SplitterState : Type 0
SplitterState = WorldState (Registers ℕ) (Visitor ℕ)

-- X is register 0 and Y register 1: X holds 0, and Y is clear
abbrev pub empty_door : Registers ℕ
empty_door = record { first = 0; values = replicate 2 0; bits = replicate 0 false }

-- a splitter that no one has entered
abbrev pub fresh : ℕ → SplitterState
fresh most = record { memory = empty_door; most = most; participants = [] }

-- a visit that begins
abbrev pub visit_of : ℕ → Visitor ℕ
visit_of id = visitor_at id 0 1

-- what a step answers: the way, once the visit ends
abbrev pub step_reply : SplitterState → ℕ → Result (Option Way) Refusal
step_reply w id = reply_of outcome_in (step_answer visitor_steps memory_steps w id)

-- the world after a step
abbrev pub world_after_step : SplitterState → ℕ → SplitterState
world_after_step w id = after_step visitor_steps memory_steps w id

-- a splitter's world, and what it keeps
abbrev pub splitter_parts : WorldParts (Visitor ℕ) (Registers ℕ) ℕ ℕ Way (Option Way)
splitter_parts = record {
  program = visitor_steps;
  memory = memory_steps;
  shown = outcome_in;
  start = visit_of;
  last = is_some;
  grows = false;
  MayStart = λ most. Unit {0};
  empty = λ most. empty_door;
  Spec = SplitterSpec;
}

abbrev pub splitter : Machine ℕ SplitterState (Call (Option Way))
splitter = world_machine splitter_parts
