-- worlds of programs over registers in a row, as local machines
use Rattle.std.specs.Prelude.{◌≡◌, ◌≢◌, ℕ, ◌≤◌, ◌+◌, false, List, Option, replicate, is_some}
use Rattle.model_steps.specs.declared.access.Access.TheVariants.{TestAndSet}
use Rattle.model_steps.specs.declared.participant.Participant.{Participant}
use Rattle.model_steps.specs.Calls.{Call, outcome_in, outcome_of, begun_in}
use Rattle.model_steps.specs.Participant.{participant_of}
use Rattle.model_steps.specs.RegisterState.{Registers}
use Rattle.model_steps.specs.Registers.{memory_steps}
use Rattle.model_steps.specs.Steps.{ProgramSteps}
use Rattle.model_steps.specs.WorldState.{WorldState}
use Rattle.model_steps.specs.WorldMachine.{WorldParts, world_machine}
use Rattle.model_steps.specs.Machine.{Reaches}
use Rattle.model_steps.specs.LocalMachine.{LocalMachine, GoesOn, one_more, program_at, IsOnce}

-- a world of such programs. It has the numbers of participants for which it may start, its registers for them, their
-- first value, the program of an identity, the most accesses of one, and the specification of its calls
pub record LocalParts (P V O : Type 0) : Type 1 where
  pub MayStart : ℕ → Type 0
  pub registers : ℕ → ℕ
  pub first : V
  pub start : ℕ → P
  pub bound : ℕ → ℕ
  pub Spec : List (Call (Option O)) → Type 0

module _ {P V O : Type 0} (program : ProgramSteps P ℕ V O) (parts : LocalParts P V O) where
  -- the world as any other, in which a step returns the outcome with which its program ended
  abbrev pub parts_of_world : WorldParts P (Registers V) ℕ V O (Option O)
  parts_of_world = record {
    program = program;
    memory = memory_steps;
    shown = outcome_in;
    start = parts.start;
    last = is_some;
    grows = false;
    MayStart = parts.MayStart;
    empty = λ most. record { first = parts.first; values = replicate (parts.registers most) parts.first; bits = replicate 0 false };
    Spec = parts.Spec;
  }

  -- and as a local machine
  abbrev pub local_world : LocalMachine P V O
  local_world = record {
    State = WorldState (Registers V) P;
    Start = ℕ;
    X = Option O;
    machine = world_machine parts_of_world;
    start_of = λ most. most;
    memory = λ w. w.memory.values;
    self = λ w q. participant_of q w.participants;
    outcome_of = outcome_of;
    MayStart = parts.MayStart;
    registers = parts.registers;
    start = parts.start;
    bound = parts.bound;
  }

-- a world whose specification allows every list of calls, and which may start for any number
abbrev pub any_parts : {P V O : Type 0} → (ℕ → ℕ) → V → (ℕ → P) → LocalParts P V O
any_parts registers first start = record { MayStart = λ most. Unit {0}; registers = registers; first = first; start = start; bound = λ most. 0; Spec = λ r. Unit {0} }

-- if no program sets a bit, a participant of a world that has not ended makes the one access that its program names
abbrev pub TakesLocally : (P V O : Type 0) → Type 0
TakesLocally P V O =
    (program : ProgramSteps P ℕ V O) (registers : ℕ → ℕ) (first : V) (start : ℕ → P) → ((u : P) (r : ℕ) → program.next u ≢ TestAndSet r) →
    (most : ℕ) (w : WorldState (Registers V) P) (r : List (Call (Option O))) → Reaches (world_machine (parts_of_world program (any_parts registers first start))) most w r →
    (p : ℕ) (o : Option (Participant P)) → p ≢ 0 → participant_of p w.participants ≡ o → GoesOn o → begun_in r + one_more o ≤ most →
    IsOnce program first (local_world program (any_parts registers first start)) most w r p o (program_at program first (local_world program (any_parts registers first start)) p o)
