-- a step of a program, and an access to a memory
use Rattle.std.specs.Prelude.{◌≡◌, ◌≢◌, Bool}
use Rattle.model_steps.specs.declared.access.Access.{Access}
use Rattle.model_steps.specs.declared.access.Access.TheVariants.{Read, Write, TestAndSet, Clear, Nothing}
use Rattle.model_steps.specs.declared.access.Answer.{Answer}
use Rattle.model_steps.specs.declared.access.Answer.TheVariants.{Value, WasSet, Done}
use Rattle.model_steps.specs.declared.note.Note.{Note}

-- a program: the access of its next step, and its state and its note after an answer. The access is a function of the
-- program alone, and the rest of the program and the answer alone. So a participant sees of the others the registers
-- that it reads
pub record ProgramSteps (P R V O : Type 0) : Type 0 where
  pub next : P → Access R V
  pub resumed : P → Answer V → P
  pub note : P → Answer V → Note O

-- a memory: the value and the bit of a register, the memory after an access, and whether the access may fail because an
-- allocation fails
pub record MemorySteps (S R V : Type 0) : Type 0 where
  pub register : S → R → V × Bool
  pub after : S → Access R V → S
  pub may_refuse : S → Access R V → Bool

-- the answer to an access, by the values and bits of the registers
abbrev pub answer_from : {R V : Type 0} → (R → V × Bool) → Access R V → Answer V
answer_from stands (Read r) = Value (stands r).0
answer_from stands (TestAndSet r) = WasSet (stands r).1
answer_from stands a = Done

-- the answer of a memory to the next access of a program
abbrev pub answer_got : {P S R V O : Type 0} → ProgramSteps P R V O → MemorySteps S R V → P → S → Answer V
answer_got program memory p s = answer_from (memory.register s) (program.next p)

-- the access leaves this register as it is: it changes another one, or none
abbrev pub Spares : {R V : Type 0} → Access R V → R → Type 0
Spares (Read r) q = Unit {0}
Spares (Write r v) q = q ≢ r
Spares (TestAndSet r) q = q ≢ r
Spares (Clear r) q = q ≢ r
Spares Nothing q = Unit {0}

-- two memories have the same value and bit in the register that the access names
abbrev pub AgreeAt : {R V : Type 0} → (R → V × Bool) → (R → V × Bool) → Access R V → Type 0
AgreeAt one other (Read r) = one r ≡ other r
AgreeAt one other (Write r v) = one r ≡ other r
AgreeAt one other (TestAndSet r) = one r ≡ other r
AgreeAt one other (Clear r) = one r ≡ other r
AgreeAt one other Nothing = Unit {0}

-- the access reads a register, writes one, or reaches none
abbrev pub ReadsOrWrites : {R V : Type 0} → Access R V → Type 0
ReadsOrWrites (TestAndSet r) = ⊥
ReadsOrWrites (Clear r) = ⊥
ReadsOrWrites a = Unit {0}

-- the access sets a bit and returns whether it was set, clears one, or reaches none
abbrev pub SetsOrClears : {R V : Type 0} → Access R V → Type 0
SetsOrClears (Read r) = ⊥
SetsOrClears (Write r v) = ⊥
SetsOrClears a = Unit {0}
