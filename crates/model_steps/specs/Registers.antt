-- the effect of an access to registers in a row. A register that is not there reads as never written, and what is
-- written to it is lost
use Rattle.std.specs.Prelude.{ℕ, Bool, true, false, slice_index_or, slice_set}
use Rattle.model_steps.specs.declared.access.Access.{Access}
use Rattle.model_steps.specs.declared.access.Access.TheVariants.{Read, Write, TestAndSet, Clear, Nothing}
use Rattle.model_steps.specs.declared.access.Answer.{Answer}
use Rattle.model_steps.specs.Steps.{MemorySteps, answer_from}
use Rattle.model_steps.specs.RegisterState.{Registers}

-- the value and the bit of a register
abbrev pub register_of : {V : Type 0} → Registers V → ℕ → V × Bool
register_of m r = (slice_index_or m.values r m.first, slice_index_or m.bits r false)

-- what an access answers
abbrev pub answer_of : {V : Type 0} → Registers V → Access ℕ V → Answer V
answer_of m a = answer_from (register_of m) a

-- what an access leaves
abbrev pub after_access : {V : Type 0} → Registers V → Access ℕ V → Registers V
after_access m (Read r) = m
after_access m (Write r v) = record { first = m.first; values = slice_set m.values r v; bits = m.bits }
after_access m (TestAndSet r) = record { first = m.first; values = m.values; bits = slice_set m.bits r true }
after_access m (Clear r) = record { first = m.first; values = m.values; bits = slice_set m.bits r false }
after_access m Nothing = m

-- no access is refused
abbrev pub memory_steps : {V : Type 0} → MemorySteps (Registers V) ℕ V
memory_steps = record { register = register_of; after = after_access; may_refuse = λ m a. false }
