-- machines each of whose steps is one access of one participant's program to registers in a row, with what has to be
-- proved of them. Threads can run such a program access by access over a memory that they share (this project's
-- profile)
use Rattle.std.specs.Prelude.{◌≡◌, ◌≢◌, ℕ, ◌+◌, ◌<◌, ◌≤◌, false, List, [], Option, Some, None, replicate, slice_index_or, slice_set}
use Rattle.model_steps.specs.declared.access.Access.{Access}
use Rattle.model_steps.specs.declared.access.Access.TheVariants.{Read, Write}
use Rattle.model_steps.specs.declared.access.Answer.{Answer}
use Rattle.model_steps.specs.declared.access.Answer.TheVariants.{Value, Done}
use Rattle.model_steps.specs.declared.participant.Participant.{Participant}
use Rattle.model_steps.specs.Note.{ends}
use Rattle.model_steps.specs.Steps.{ProgramSteps}
use Rattle.model_steps.specs.Calls.{Call, outcome_in, steps_of, begun_in}
use Rattle.model_steps.specs.Machine.{Machine, Reaches}

-- The machine with its starts, the values of its registers, the participant of each identity, and the outcome that the
-- calls gave to an identity. Then the numbers of participants for which it may start, its registers for them, the
-- program of an identity, and the most accesses of one
pub record LocalMachine (P V O : Type 0) : Type 1 where
  pub State : Type 0
  pub Start : Type 0
  pub X : Type 0
  pub machine : Machine Start State (Call X)
  pub start_of : ℕ → Start
  pub memory : State → List V
  pub self : State → ℕ → Option (Participant P)
  pub outcome_of : ℕ → List (Call X) → Option O
  pub MayStart : ℕ → Type 0
  pub registers : ℕ → ℕ
  pub start : ℕ → P
  pub bound : ℕ → ℕ

-- the access reads or writes one of the first `registers` registers
abbrev pub IsWithin : {V : Type 0} → ℕ → Access ℕ V → Type 0
IsWithin registers (Read r) = r < registers
IsWithin registers (Write r v) = r < registers
IsWithin registers a = ⊥

-- the values after an access
abbrev pub values_after : {V : Type 0} → List V → Access ℕ V → List V
values_after values (Write r v) = slice_set values r v
values_after values a = values

-- the answer to an access. A register that is not there has the value `first`
abbrev pub answer_in : {V : Type 0} → V → List V → Access ℕ V → Answer V
answer_in first values (Read r) = Value (slice_index_or values r first)
answer_in first values a = Done

-- a participant that has begun has not ended
abbrev pub GoesOn : {P : Type 0} → Option (Participant P) → Type 0
GoesOn None = Unit {0}
GoesOn (Some v) = v.ended ≡ false

-- the number of participants that begin: one if there was none
abbrev pub one_more : {P : Type 0} → Option (Participant P) → ℕ
one_more None = 1
one_more (Some v) = 0

module _ {P V O : Type 0} (program : ProgramSteps P ℕ V O) (first : V) (local : LocalMachine P V O) where
  -- the program of an identity: the one with which it begins, until it does
  abbrev pub program_at : ℕ → Option (Participant P) → P
  program_at p None = local.start p
  program_at p (Some v) = v.program

  -- the answer to the next access of a program
  abbrev pub got : local.State → P → Answer V
  got w u = answer_in first (local.memory w) (program.next u)

  -- a participant after an answer to its program
  abbrev pub moved : ℕ → P → Answer V → Participant P
  moved p u answer = record { identity = p; program = program.resumed u answer; ended = ends (program.note u answer) }

  -- after some more calls p has made one access more. The registers are as that access left them, p's program got its
  -- answer, and no other participant has changed
  pub record IsOnce (most : ℕ) (w0 : local.State) (r0 : List (Call local.X)) (p : ℕ) (o : Option (Participant P)) (u : P) : Type 0 where
    pub w : local.State
    pub r : List (Call local.X)
    pub after : Reaches local.machine (local.start_of most) w r
    pub memory_is : local.memory w ≡ values_after (local.memory w0) (program.next u)
    pub mine : local.self w p ≡ Some (moved p u (got w0 u))
    pub others : (q : ℕ) → q ≢ p → local.self w q ≡ local.self w0 q
    pub own_steps : steps_of p r ≡ steps_of p r0 + 1
    pub steps : (q : ℕ) → q ≢ p → steps_of q r ≡ steps_of q r0
    pub own_outcome_is : local.outcome_of p r0 ≡ None → local.outcome_of p r ≡ outcome_in (program.note u (got w0 u))
    pub outcomes : (q : ℕ) → q ≢ p → local.outcome_of q r ≡ local.outcome_of q r0
    pub begun : begun_in r ≡ begun_in r0 + one_more o

  -- it starts with the first value in each register, and with no participant
  pub record IsFresh (most : ℕ) : Type 0 where
    pub after : Reaches local.machine (local.start_of most) (local.machine.first (local.start_of most)) []
    pub blank : local.memory (local.machine.first (local.start_of most)) ≡ replicate (local.registers most) first
    pub nobody : (q : ℕ) → local.self (local.machine.first (local.start_of most)) q ≡ None
    pub unreported : (q : ℕ) → local.outcome_of q [] ≡ None

  -- What is proved of such a machine. `takes`: a participant that has not ended makes the one access that its program
  -- names, and begins with it if it has not begun and there is room. `few`: no participant makes more accesses than the
  -- bound. `begins`, `own`: each access of one that has not ended is to one of the registers
  pub record ChangesOnly : Type 0 where
    pub fresh : (most : ℕ) → local.MayStart most → IsFresh most
    pub takes : (most : ℕ) (w : local.State) (r : List (Call local.X)) → Reaches local.machine (local.start_of most) w r → (p : ℕ) (o : Option (Participant P)) → p ≢ 0 → local.self w p ≡ o → GoesOn o →
        begun_in r + one_more o ≤ most → IsOnce most w r p o (program_at p o)
    pub some : (most : ℕ) → 1 ≤ most → 0 < local.registers most
    pub few : (most : ℕ) (w : local.State) (r : List (Call local.X)) → Reaches local.machine (local.start_of most) w r → (p : ℕ) → steps_of p r ≤ local.bound most
    pub begins : (most p : ℕ) → 1 ≤ most → local.MayStart most → IsWithin (local.registers most) (program.next (local.start p))
    pub own : (most : ℕ) (w : local.State) (r : List (Call local.X)) → Reaches local.machine (local.start_of most) w r → (p : ℕ) (v : Participant P) → local.self w p ≡ Some v → v.ended ≡ false →
        IsWithin (local.registers most) (program.next v.program)
