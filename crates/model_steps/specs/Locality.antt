-- the frame of a step: a participant reads of the others one register alone, and changes of the world nothing but what
-- it writes (this project's profile)
use Rattle.std.specs.Prelude.{◌≡◌, ◌≢◌, ℕ, Some, None, Result}
use Rattle.model_steps.specs.declared.access.Access.TheVariants.{Read}
use Rattle.model_steps.specs.declared.note.Note.{Note}
use Rattle.model_steps.specs.declared.participant.Participant.{Participant}
use Rattle.model_steps.specs.declared.refusal.Refusal.{Refusal}
use Rattle.model_steps.specs.Participant.{participant_of}
use Rattle.model_steps.specs.Steps.{ProgramSteps, MemorySteps, Spares, AgreeAt}
use Rattle.model_steps.specs.World.{step_answer}
use Rattle.model_steps.specs.WorldState.{WorldState}

-- p has the same state in two worlds
abbrev pub StandAlike : {P S : Type 0} → ℕ → WorldState S P → WorldState S P → Type 0
StandAlike p one other = participant_of p one.participants ≡ participant_of p other.participants

module _ {P S R V O : Type 0} (program : ProgramSteps P R V O) (memory : MemorySteps S R V) where
  -- a step of p changes no other participant, and at most the register that p's own program names. If p has not begun
  -- it changes none
  pub record ChangesOnly (p : ℕ) (old new : WorldState S P) : Type 0 where
    pub most : new.most ≡ old.most
    pub others : (q : ℕ) → q ≢ p → participant_of q new.participants ≡ participant_of q old.participants
    pub registers : (v : Participant P) → participant_of p old.participants ≡ Some v →
        (r : R) → Spares (program.next v.program) r → memory.register new.memory r ≡ memory.register old.memory r
    pub absent : participant_of p old.participants ≡ None → new.memory ≡ old.memory

  -- p has the same state in two worlds, and they have the same value and bit in the register that its program names
  pub record Indistinguishable (p : ℕ) (one other : WorldState S P) : Type 0 where
    pub participant : participant_of p one.participants ≡ participant_of p other.participants
    pub register : (v : Participant P) → participant_of p one.participants ≡ Some v →
        AgreeAt (memory.register one.memory) (memory.register other.memory) (program.next v.program)

  -- in each world that p cannot distinguish, the reply to its step is this one
  abbrev pub IsAnsweredAlike : ℕ → WorldState S P → Result (Note O) Refusal → Type 0
  IsAnsweredAlike p one reply = (other : WorldState S P) → Indistinguishable p one other → reply ≡ step_answer program memory other p

-- p has begun, and its next access is a read
abbrev pub ReadsNext : {P S R V O : Type 0} → ProgramSteps P R V O → WorldState S P → ℕ → Type 0
ReadsNext {P} {S} {R} program w p = (v : Participant P) × (r : R) × (participant_of p w.participants ≡ Some v) × (program.next v.program ≡ Read r)

-- p has begun, and its program is one that a shortcut takes
abbrev pub IsTaken : {P S : Type 0} → (P → Type 0) → WorldState S P → ℕ → Type 0
IsTaken {P} {S} takes w p = (v : Participant P) × (participant_of p w.participants ≡ Some v) × takes v.program
