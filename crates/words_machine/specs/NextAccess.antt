-- what a program tells of its next access
use Rattle.std.specs.Prelude.{◌≡◌, ℕ}
use Rattle.model_steps.specs.declared.access.Access.{Access}
use Rattle.model_steps.specs.declared.access.Access.TheVariants.{Read, Write}
use Rattle.model_steps.specs.Steps.{ProgramSteps}
use Rattle.words_machine.specs.declared.word_access.WordAccess.{WordAccess}
use Rattle.words_machine.specs.declared.word_access.WordAccess.TheVariants.{Load, Store, Nothing}

-- it neither reads nor writes a register
abbrev pub IsNeither : {R : Type 0} → Access R ℕ → Type 0
IsNeither (Read r) = ⊥
IsNeither (Write r v) = ⊥
IsNeither a = Unit {0}

-- this access to a register is that access to a word
abbrev pub IsOf : {R : Type 0} → Access R ℕ → WordAccess R → Type 0
IsOf a (Load r) = a ≡ Read r
IsOf a (Store r word) = a ≡ Write r word
IsOf a Nothing = IsNeither a

-- the next access is this one
abbrev pub IsNext : {P R O : Type 0} → ProgramSteps P R ℕ O → P → WordAccess R → Type 0
IsNext program u access = IsOf (program.next u) access
