-- the accesses of a visit, and the visit after each answer
use Rattle.std.specs.Prelude.{◌≡◌, ◌≢◌, ℕ, length}
use Rattle.model_steps.specs.declared.access.Access.{Access}
use Rattle.model_steps.specs.declared.access.Access.TheVariants.{Read, Write, Nothing}
use Rattle.model_steps.specs.declared.access.Answer.{Answer}
use Rattle.model_steps.specs.declared.access.Answer.TheVariants.{Value, WasSet, Done}
use Rattle.model_steps.specs.declared.note.Note.{Note}
use Rattle.model_steps.specs.declared.note.Note.TheVariants.{Quiet, Ended}
use Rattle.model_steps.specs.Steps.{ProgramSteps}
use Rattle.model_steps.specs.RegisterState.{Registers}
use Rattle.model_steps.specs.Registers.{register_of, answer_of, after_access}
use Rattle.model_splitter.specs.declared.way.Way.{Way}
use Rattle.model_splitter.specs.declared.stage.VisitStage.{VisitStage}
use Rattle.model_splitter.specs.declared.stage.VisitStage.TheVariants.{Outside, WroteX, SawClear, WroteY, Gone}
use Rattle.model_splitter.specs.declared.visitor.Visitor.{Visitor}
use Rattle.model_splitter.specs.Stage.{x_after, y_after, stage_after}

-- a visit that has not begun
abbrev pub visitor_at : {R : Type 0} → ℕ → R → R → Visitor R
visitor_at id x y = record { identity = id; x = x; y = y; stage = Outside }

abbrev pub access_at : {R : Type 0} → ℕ → R → R → VisitStage → Access R ℕ
access_at p x y Outside = Write x p
access_at p x y WroteX = Read y
access_at p x y SawClear = Write y 1
access_at p x y WroteY = Read x
access_at p x y (Gone way) = Nothing

-- the access of the next step
abbrev pub access_of : {R : Type 0} → Visitor R → Access R ℕ
access_of v = access_at v.identity v.x v.y v.stage

-- the value in an answer
abbrev pub value_in : Answer ℕ → ℕ
value_in (Value value) = value
value_in (WasSet was) = 0
value_in Done = 0

-- the stage of a visit after an answer. One access reads X or Y, so the answer is the value of either
abbrev pub stage_by : {R : Type 0} → Visitor R → Answer ℕ → VisitStage
stage_by v got = stage_after v.identity v.stage (value_in got) (value_in got)

abbrev pub visitor_after : {R : Type 0} → Visitor R → Answer ℕ → Visitor R
visitor_after v got = record v { stage = stage_by v got }

abbrev pub note_at : VisitStage → Note Way
note_at Outside = Quiet
note_at WroteX = Quiet
note_at SawClear = Quiet
note_at WroteY = Quiet
note_at (Gone way) = Ended way

abbrev pub note_after : {R : Type 0} → Visitor R → Answer ℕ → Note Way
note_after v got = note_at (stage_by v got)

abbrev pub visitor_steps : {R : Type 0} → ProgramSteps (Visitor R) R ℕ Way
visitor_steps = record { next = access_of; resumed = visitor_after; note = note_after }

-- the word in a register
abbrev pub word_of : Registers ℕ → ℕ → ℕ
word_of m r = (register_of m r).0

-- the next access of a visit changes X, Y and the visit as stated above, and no other register
pub record IsAccessOf (m : Registers ℕ) (v : Visitor ℕ) : Type 0 where
  pub stage : stage_by v (answer_of m (access_of v)) ≡ stage_after v.identity v.stage (word_of m v.x) (word_of m v.y)
  pub x : word_of (after_access m (access_of v)) v.x ≡ x_after v.identity v.stage (word_of m v.x)
  pub y : word_of (after_access m (access_of v)) v.y ≡ y_after v.stage (word_of m v.y)
  pub others : (r : ℕ) → r ≢ v.x → r ≢ v.y → word_of (after_access m (access_of v)) r ≡ word_of m r
  pub registers : length (after_access m (access_of v)).values ≡ length m.values
