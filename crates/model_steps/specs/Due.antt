-- the errors that are due to calls, over calls with their replies alone (this project's profile)
use Rattle.std.specs.Prelude.{◌≡◌, ◌==◌, ◌&&◌, ◌||◌, ℕ, Bool, true, false, ◌⊎◌, if◌then◌else◌, nat_le, List, [], ◌∷◌, ◌++◌, Option, Some, None, Ok, Err}
use Rattle.model_steps.specs.declared.refusal.Refusal.{Refusal}
use Rattle.model_steps.specs.declared.refusal.Refusal.TheVariants.{ZeroIdentity, AlreadyBegun, Full, NotBegun, Finished, NoMemory}
use Rattle.model_steps.specs.declared.note.Note.{Note}
use Rattle.model_steps.specs.declared.access.Access.{Access}
use Rattle.model_steps.specs.Note.{ends}
use Rattle.model_steps.specs.Steps.{MemorySteps}
use Rattle.model_steps.specs.World.{done_unless}
use Rattle.model_steps.specs.Calls.{Call, begun_in}
use Rattle.model_steps.specs.Calls.Call.{Began, Stepped}

abbrev pub begins : {X : Type 0} → ℕ → Call X → Bool
begins p (Began q (Ok done)) = q == p
begins p (Began q (Err refusal)) = false
begins p (Stepped q reply) = false

-- p has begun
abbrev pub has_begun : {X : Type 0} → ℕ → List (Call X) → Bool
has_begun p [] = false
has_begun p (h ∷ r) = begins p h || has_begun p r

-- in a world of at most `most` participants. `last` says whether the reply of an accepted step ends the program, and
-- `grows` whether an allocation may fail
module _ {X : Type 0} (last : X → Bool) where
  abbrev pub ends_by : ℕ → Call X → Bool
  ends_by p (Began q reply) = false
  ends_by p (Stepped q (Ok said)) = (q == p) && last said
  ends_by p (Stepped q (Err refusal)) = false

  -- p's program has ended
  abbrev pub has_ended : ℕ → List (Call X) → Bool
  has_ended p [] = false
  has_ended p (h ∷ r) = ends_by p h || has_ended p r

  -- the error that is due to `begin` of p after these calls: the first of these that holds
  abbrev pub begin_due : ℕ → List (Call X) → ℕ → Option Refusal
  begin_due most r p =
      if p == 0 then Some ZeroIdentity
      else if has_begun p r then Some AlreadyBegun
      else if nat_le most (begun_in r) then Some Full
      else None

  -- the error that is due to a step of p after these calls: the first of these that holds
  abbrev pub step_due : List (Call X) → ℕ → Option Refusal
  step_due r p = if has_begun p r then (if has_ended p r then Some Finished else None) else Some NotBegun

  -- after these calls, a call returns an error if and only if that error is due. If `grows`, a step for which none is
  -- due may fail because an allocation failed
  abbrev pub IsRefusedAsDue : ℕ → Bool → List (Call X) → Call X → Type 0
  IsRefusedAsDue most grows r (Began p reply) = reply ≡ done_unless (begin_due most r p)
  IsRefusedAsDue most grows r (Stepped p (Ok said)) = step_due r p ≡ None
  IsRefusedAsDue most grows r (Stepped p (Err why)) = (step_due r p ≡ Some why) ⊎ ((step_due r p ≡ None) × (why ≡ NoMemory) × (grows ≡ true))

  -- this holds of each call of the list, after those before it
  abbrev pub RefusesAsDue : ℕ → Bool → List (Call X) → Type 0
  RefusesAsDue most grows r = (before : List (Call X)) (h : Call X) (rest : List (Call X)) → r ≡ before ++ h ∷ rest → IsRefusedAsDue most grows before h

  -- a participant whose program has ended makes no accepted step
  abbrev pub EndsOnce : List (Call X) → Type 0
  EndsOnce r = (before : List (Call X)) (p : ℕ) (said : X) (rest : List (Call X)) → r ≡ before ++ Stepped p (Ok said) ∷ rest → has_ended p before ≡ false

-- `last` says of the reply for a note whether the note ends the program
abbrev pub TellsTheEnd : {O X : Type 0} → (Note O → X) → (X → Bool) → Type 0
TellsTheEnd {O} shown last = (note : Note O) → last (shown note) ≡ ends note

-- an allocation of the memory may fail only if `grows`
abbrev pub GrowsOnly : {S R V : Type 0} → MemorySteps S R V → Bool → Type 0
GrowsOnly {S} {R} {V} memory grows = (m : S) (a : Access R V) → memory.may_refuse m a ≡ true → grows ≡ true
