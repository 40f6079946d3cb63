-- machines each of whose steps is one access of one participant's program to registers that words hold, and what has to be
-- proved of them (this project's profile)
use Rattle.std.specs.Prelude.{◌≡◌, ◌≢◌, ℕ, ◌+◌, ◌^◌, ◌<◌, ◌≤◌, false, List, [], Option, Some, None}
use Rattle.model_steps.specs.declared.access.Access.{Access}
use Rattle.model_steps.specs.declared.access.Access.TheVariants.{Read, Write}
use Rattle.model_steps.specs.declared.access.Answer.{Answer}
use Rattle.model_steps.specs.declared.access.Answer.TheVariants.{Value, Done}
use Rattle.model_steps.specs.declared.participant.Participant.{Participant}
use Rattle.model_steps.specs.Note.{ends}
use Rattle.model_steps.specs.Steps.{ProgramSteps, Spares}
use Rattle.model_steps.specs.Calls.{outcome_in}
use Rattle.model_steps.specs.Machine.{Machine, Reaches}

-- The machine: its states and calls, where it starts, the words in its registers, and where the participant of each seat stands.
-- What a list of its calls says: with what a participant has ended, how many steps it made, and how many have begun. What is
-- known of a state and of the calls that led to it. For how many seats it may start, with which identity a seat may begin, its
-- program then, and the most accesses of one. Which registers there are, how many, and the word of each
pub record WordLaw (P R O : Type 0) : Type 1 where
  pub State : Type 0
  pub Start : Type 0
  pub Call : Type 0
  pub machine : Machine Start State Call
  pub start_of : ℕ → Start
  pub memory : State → R → ℕ
  pub self : State → ℕ → Option (Participant P)
  pub outcome_of : ℕ → List Call → Option O
  pub steps_of : ℕ → List Call → ℕ
  pub begun_in : List Call → ℕ
  pub Holds : ℕ → State → List Call → Type 0
  pub MayStart : ℕ → Type 0
  pub MayBegin : ℕ → ℕ → Type 0
  pub start : ℕ → ℕ → ℕ → P
  pub bound : ℕ → ℕ
  pub IsRegister : ℕ → R → Type 0
  pub registers : ℕ → ℕ
  pub place : ℕ → R → ℕ

-- what an access answers, where these words stand in the registers
abbrev pub answer_in : {R : Type 0} → (R → ℕ) → Access R ℕ → Answer ℕ
answer_in stands (Read r) = Value (stands r)
answer_in stands a = Done

-- both read, or both write this word
abbrev pub IsAlike : {R Q : Type 0} → Access R ℕ → Access Q ℕ → Type 0
IsAlike (Read r) (Read q) = Unit {0}
IsAlike (Write r v) (Write q w) = v ≡ w
IsAlike a b = ⊥

-- one more begins where there was none
abbrev pub one_more : {P : Type 0} → Option (Participant P) → ℕ
one_more None = 1
one_more (Some v) = 0

module _ {P R O : Type 0} (program : ProgramSteps P R ℕ O) (law : WordLaw P R O) where
  -- the access reads or writes one of the registers
  abbrev pub IsOwnAccess : ℕ → Access R ℕ → Type 0
  IsOwnAccess most (Read r) = law.IsRegister most r
  IsOwnAccess most (Write r v) = law.IsRegister most r
  IsOwnAccess most a = ⊥

  -- a seat may begin with this identity, or has begun with it and has not ended
  abbrev pub GoesOn : ℕ → ℕ → Option (Participant P) → Type 0
  GoesOn p identity None = law.MayBegin p identity
  GoesOn p identity (Some v) = (v.ended ≡ false) × (v.identity ≡ identity)

  -- the program of a seat: that of who begins with this identity, until it does
  abbrev pub program_at : ℕ → ℕ → ℕ → Option (Participant P) → P
  program_at most p identity None = law.start most p identity
  program_at most p identity (Some v) = v.program

  -- what a program gets for its next access
  abbrev pub got : law.State → P → Answer ℕ
  got w u = answer_in (law.memory w) (program.next u)

  -- the participant of this identity after an answer to its program
  abbrev pub moved : ℕ → P → Answer ℕ → Participant P
  moved identity u answer = record { identity = identity; program = program.resumed u answer; ended = ends (program.note u answer) }

  -- Some calls later seat p, whose participant stood so, has made one access more: the registers are as that access left them,
  -- p's program got its answer, and each other stands where it did
  pub record IsOnce (most : ℕ) (w0 : law.State) (r0 : List law.Call) (p identity : ℕ) (o : Option (Participant P)) (u : P) : Type 0 where
    pub w : law.State
    pub r : List law.Call
    pub holds : law.Holds most w r
    pub wrote : (x : R) (v : ℕ) → program.next u ≡ Write x v → law.memory w x ≡ v
    pub spared : (x : R) → Spares (program.next u) x → law.memory w x ≡ law.memory w0 x
    pub mine : law.self w p ≡ Some (moved identity u (got w0 u))
    pub others : (q : ℕ) → q ≢ p → law.self w q ≡ law.self w0 q
    pub own_steps : law.steps_of p r ≡ law.steps_of p r0 + 1
    pub steps : (q : ℕ) → q ≢ p → law.steps_of q r ≡ law.steps_of q r0
    pub own_outcome_is : law.outcome_of p r0 ≡ None → law.outcome_of p r ≡ outcome_in (program.note u (got w0 u))
    pub outcomes : (q : ℕ) → q ≢ p → law.outcome_of q r ≡ law.outcome_of q r0
    pub begun : law.begun_in r ≡ law.begun_in r0 + one_more o

  -- it starts with 0 in each register, and nobody has begun
  pub record IsFresh (most : ℕ) : Type 0 where
    pub holds : law.Holds most (law.machine.first (law.start_of most)) []
    pub blank : (x : R) → law.IsRegister most x → law.memory (law.machine.first (law.start_of most)) x ≡ 0
    pub nobody : (q : ℕ) → law.self (law.machine.first (law.start_of most)) q ≡ None
    pub unreported : (q : ℕ) → law.outcome_of q [] ≡ None
    pub unmoved : (q : ℕ) → law.steps_of q [] ≡ 0
    pub unbegun : law.begun_in [] ≡ 0

  -- What is proved of it. `takes`: a seat whose participant stands somewhere and has not ended makes one access, as its program
  -- says, and begins with it where it has not begun and there is room. `few`: nobody makes more accesses than the bound.
  -- `tells`: the first access of a seat tells with which identity it begins.
  -- `begins`, `own`: each access of a participant that has not ended is one that words can serve. `within`, `apart`: each
  -- register has a word of its own. `small`, `bounded`: words and accesses are few enough to be counted
  pub record IsSound : Type 0 where
    pub after : (most : ℕ) (w : law.State) (r : List law.Call) → law.Holds most w r → Reaches law.machine (law.start_of most) w r
    pub fresh : (most : ℕ) → law.MayStart most → IsFresh most
    pub takes : (most : ℕ) (w : law.State) (r : List law.Call) → law.Holds most w r → (p identity : ℕ) (o : Option (Participant P)) → p ≢ 0 → p ≤ most → law.self w p ≡ o → GoesOn p identity o →
        law.begun_in r + one_more o ≤ most → IsOnce most w r p identity o (program_at most p identity o)
    pub few : (most : ℕ) (w : law.State) (r : List law.Call) → law.Holds most w r → (p : ℕ) → law.steps_of p r ≤ law.bound most
    pub tells : (most p i j : ℕ) → law.MayBegin p i → law.MayBegin p j → IsAlike (program.next (law.start most p i)) (program.next (law.start most p j)) → i ≡ j
    pub begins : (most p identity : ℕ) → 1 ≤ p → p ≤ most → law.MayStart most → law.MayBegin p identity → IsOwnAccess most (program.next (law.start most p identity))
    pub own : (most : ℕ) (w : law.State) (r : List law.Call) → law.Holds most w r → (p : ℕ) (v : Participant P) → law.self w p ≡ Some v → v.ended ≡ false → IsOwnAccess most (program.next v.program)
    pub within : (most : ℕ) (x : R) → law.IsRegister most x → law.place most x < law.registers most
    pub apart : (most : ℕ) (x y : R) → law.IsRegister most x → law.IsRegister most y → law.place most x ≡ law.place most y → x ≡ y
    pub some : (most : ℕ) → 1 ≤ most → 0 < law.registers most
    pub small : (most : ℕ) → law.MayStart most → law.registers most < 2 ^ 32
    pub bounded : (most : ℕ) → law.MayStart most → law.bound most < 2 ^ 64
