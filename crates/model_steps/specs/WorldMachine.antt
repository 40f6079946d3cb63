-- worlds as machines
use Rattle.std.specs.Prelude.{ℕ, Bool, List, []}
use Rattle.model_steps.specs.declared.note.Note.{Note}
use Rattle.model_steps.specs.Steps.{ProgramSteps, MemorySteps}
use Rattle.model_steps.specs.WorldState.{WorldState}
use Rattle.model_steps.specs.Calls.{Call, next, IsReply}
use Rattle.model_steps.specs.Due.{RefusesAsDue, EndsOnce, TellsTheEnd, GrowsOnly}
use Rattle.model_steps.specs.Machine.{Machine}

-- a world of any programs over any memory, which starts with a memory and with room for this many participants. If
-- `last` says when a program ends, and only `grows` lets an allocation fail, no step follows an end, and calls return
-- the errors that are due
module _ {P S R V O X : Type 0} (program : ProgramSteps P R V O) (memory : MemorySteps S R V) (shown : Note O → X) (start : ℕ → P) (last : X → Bool) (grows : Bool) where
  abbrev pub any_world : Machine (S × ℕ) (WorldState S P) (Call X)
  any_world = record {
    MayStart = λ first. Unit {0};
    first = λ first. record { memory = first.0; most = first.1; participants = [] };
    next = next program memory shown start;
    IsReply = IsReply program memory shown start;
    Spec = λ first r. TellsTheEnd shown last → GrowsOnly memory grows → EndsOnce last r;
    RefusesAsDue = λ first r. TellsTheEnd shown last → GrowsOnly memory grows → RefusesAsDue last first.1 grows r;
  }

-- the parts of a world of one kind: its programs, its memory, its reply for a note and whether that ends the program,
-- and the specification of its calls
pub record WorldParts (P S R V O X : Type 0) : Type 1 where
  pub program : ProgramSteps P R V O
  pub memory : MemorySteps S R V
  pub shown : Note O → X
  pub start : ℕ → P
  pub last : X → Bool
  -- whether an allocation may fail
  pub grows : Bool
  -- the most participants that there may be, and the memory for so many
  pub MayStart : ℕ → Type 0
  pub empty : ℕ → S
  pub Spec : List (Call X) → Type 0

module _ {P S R V O X : Type 0} (parts : WorldParts P S R V O X) where
  -- a world for this many participants in which none has begun
  abbrev pub fresh_world : ℕ → WorldState S P
  fresh_world most = record { memory = parts.empty most; most = most; participants = [] }

  abbrev pub world_machine : Machine ℕ (WorldState S P) (Call X)
  world_machine = record {
    MayStart = parts.MayStart;
    first = fresh_world;
    next = next parts.program parts.memory parts.shown parts.start;
    IsReply = IsReply parts.program parts.memory parts.shown parts.start;
    Spec = λ most r. parts.Spec r;
    RefusesAsDue = λ most r. RefusesAsDue parts.last most parts.grows r;
  }
