-- the calls of a world with their replies, and the machine that they run on
use Rattle.std.specs.Prelude.{◌≡◌, ℕ, ◌+◌, ◌==◌, if◌then◌else◌, Bool, true, false, ◌⊎◌, List, [], ◌∷◌, Option, Some, None, Result, Ok, Err}
use Rattle.model_steps.specs.declared.note.Note.{Note}
use Rattle.model_steps.specs.declared.note.Note.TheVariants.{Quiet, Said, Ended}
use Rattle.model_steps.specs.declared.refusal.Refusal.{Refusal}
use Rattle.model_steps.specs.declared.refusal.Refusal.TheVariants.{NoMemory}
use Rattle.model_steps.specs.Refusal.{refusal_number}
use Rattle.model_steps.specs.Steps.{ProgramSteps, MemorySteps}
use Rattle.model_steps.specs.WorldState.{WorldState}
use Rattle.model_steps.specs.World.{begin_refusal, done_unless, after_begin, step_answer, after_step, may_refuse_step}

-- a call with its reply. An accepted step returns an X
pub data Call (X : Type 0) : Type 0 where
  Began : ℕ → Result (Unit {0}) Refusal → Call X
  Stepped : ℕ → Result X Refusal → Call X

abbrev pub begun_with : Result (Unit {0}) Refusal → ℕ
begun_with (Ok done) = 1
begun_with (Err refusal) = 0

abbrev pub begun_by : {X : Type 0} → Call X → ℕ
begun_by (Began q reply) = begun_with reply
begun_by (Stepped q reply) = 0

-- how many participants have begun
abbrev pub begun_in : {X : Type 0} → List (Call X) → ℕ
begun_in [] = 0
begun_in (h ∷ r) = begun_by h + begun_in r

abbrev pub counted : {X : Type 0} → ℕ → ℕ → Result X Refusal → ℕ
counted p q (Ok said) = if q == p then 1 else 0
counted p q (Err refusal) = 0

abbrev pub steps_by : {X : Type 0} → ℕ → Call X → ℕ
steps_by p (Began q reply) = 0
steps_by p (Stepped q reply) = counted p q reply

-- how many accepted steps p has made
abbrev pub steps_of : {X : Type 0} → ℕ → List (Call X) → ℕ
steps_of p [] = 0
steps_of p (h ∷ r) = steps_by p h + steps_of p r

abbrev pub ended_by : {O : Type 0} → ℕ → ℕ → Result (Option O) Refusal → Option O
ended_by p q (Ok outcome) = if q == p then outcome else None
ended_by p q (Err refusal) = None

abbrev pub outcome_by : {O : Type 0} → ℕ → Call (Option O) → Option O
outcome_by p (Began q reply) = None
outcome_by p (Stepped q reply) = ended_by p q reply

abbrev pub first_of : {O : Type 0} → Option O → Option O → Option O
first_of None later = later
first_of (Some outcome) later = Some outcome

-- the outcome of p's program, if a step returns the outcome with which the program ends
abbrev pub outcome_of : {O : Type 0} → ℕ → List (Call (Option O)) → Option O
outcome_of p [] = None
outcome_of p (h ∷ r) = first_of (outcome_by p h) (outcome_of p r)

-- the outcome of a program that ends
abbrev pub outcome_in : {O : Type 0} → Note O → Option O
outcome_in Quiet = None
outcome_in (Said said) = None
outcome_in (Ended outcome) = Some outcome

-- the reply of a world to a step, from the note of its program
abbrev pub reply_of : {O X : Type 0} → (Note O → X) → Result (Note O) Refusal → Result X Refusal
reply_of shown (Ok note) = Ok (shown note)
reply_of shown (Err refusal) = Err refusal

-- whether the reply is `NoMemory`
abbrev pub lacked_memory : {X : Type 0} → Result X Refusal → Bool
lacked_memory (Ok said) = false
lacked_memory (Err refusal) = refusal_number refusal == 12

-- `shown` is the reply of a world for a note, and `start` the program of an identity that begins
module _ {P S R V O X : Type 0} (program : ProgramSteps P R V O) (memory : MemorySteps S R V) (shown : Note O → X) (start : ℕ → P) where
  -- the world after a call. A step that fails with `NoMemory` changes nothing
  abbrev pub next : WorldState S P → Call X → WorldState S P
  next w (Began id reply) = after_begin w id (start id)
  next w (Stepped id reply) = if lacked_memory reply then w else after_step program memory w id

  -- the reply is the due one, or `NoMemory` at a step that may lack memory
  abbrev pub IsReply : WorldState S P → Call X → Type 0
  IsReply w (Began id reply) = reply ≡ done_unless (begin_refusal w id)
  IsReply w (Stepped id reply) =
      (reply ≡ reply_of shown (step_answer program memory w id))
      ⊎ ((reply ≡ Err NoMemory) × (may_refuse_step program memory w id ≡ true))
