-- the order of the replies to one identity, and the number of steps between them (this project's profile)
use Rattle.std.specs.Prelude.{◌≡◌, ℕ, ◌+◌, ◌<◌, ◌≤◌, ◌==◌, if◌then◌else◌, List, Ok, Err}
use Rattle.model_steps.specs.SetAt.{set_at}
use Rattle.model_steps.specs.Runs.{Run}
use Rattle.model_steps.specs.Calls.{Call}
use Rattle.model_steps.specs.Calls.Call.{Began, Stepped}
use Rattle.model_snapshot.specs.Snapshot.{SnapBounds}
use Rattle.model_renaming.specs.Reply.{StepReply}
use Rattle.model_asked.specs.rounds.Proposals.{next_proposal}
use Rattle.model_renaming.specs.declared.reply.Reply.TheVariants.{Quiet, Placed, Proposed, Saw, Named, Spent}

-- what an identity does next: it goes to its place, proposes this number, or looks at what the others propose; or it has
-- ended
pub data Phase : Type 0 where
  ToPlace : Phase
  ToPropose : ℕ → Phase
  ToLook : Phase
  AtEnd : Phase

-- how many have begun; what each identity does next, and how many steps it has made of it
pub record Pace : Type 0 where
  pub begun : ℕ
  pub phase : ℕ → Phase
  pub steps : ℕ → ℕ

abbrev pub new_pace : Pace
new_pace = record { begun = 0; phase = λ p. AtEnd; steps = λ p. 0 }

-- a participant that needs no step to its place proposes at once, first the number 1
abbrev pub first_phase : SnapBounds → Phase
first_phase bounds = if bounds.placing 1 == 0 then ToPropose 1 else ToPlace

-- the most steps of a phase, if this many have begun. A proposal takes one step more than a scan, the write
abbrev pub most_steps : SnapBounds → ℕ → Phase → ℕ
most_steps bounds begun ToPlace = bounds.placing begun
most_steps bounds begun (ToPropose n) = bounds.scanning begun + 1
most_steps bounds begun ToLook = bounds.scanning begun
most_steps bounds begun AtEnd = 0

-- p does this, and the step is within its bound
pub record IsStepOf (bounds : SnapBounds) (t : Pace) (p : ℕ) (phase : Phase) : Type 0 where
  pub is : t.phase p ≡ phase
  pub within : t.steps p + 1 ≤ most_steps bounds t.begun phase

-- the reply ends what p does next. If that goes on, steps of it are left, so that it ends
abbrev pub IsInTime : SnapBounds → Pace → ℕ → StepReply → Type 0
IsInTime bounds t p Quiet = t.steps p + 1 < most_steps bounds t.begun (t.phase p)
IsInTime bounds t p (Placed place) = IsStepOf bounds t p ToPlace
IsInTime bounds t p (Proposed n) = IsStepOf bounds t p (ToPropose n)
IsInTime bounds t p (Saw view) = IsStepOf bounds t p ToLook
IsInTime bounds t p (Named n view) = IsStepOf bounds t p ToLook
IsInTime bounds t p Spent = IsStepOf bounds t p ToLook

abbrev pub InTime : SnapBounds → Pace → Call StepReply → Type 0
InTime bounds t (Began p reply) = Unit {0}
InTime bounds t (Stepped p (Ok reply)) = IsInTime bounds t p reply
InTime bounds t (Stepped p (Err why)) = Unit {0}

-- p does this next, and has made no step of it
abbrev pub turned : Pace → ℕ → Phase → Pace
turned t p phase = record t { phase = set_at t.phase p phase; steps = set_at t.steps p 0 }

abbrev pub paced_step : Pace → ℕ → StepReply → Pace
paced_step t p Quiet = record t { steps = set_at t.steps p (t.steps p + 1) }
paced_step t p (Placed place) = turned t p (ToPropose 1)
paced_step t p (Proposed n) = turned t p ToLook
paced_step t p (Saw view) = turned t p (ToPropose (next_proposal p view))
paced_step t p (Named n view) = turned t p AtEnd
paced_step t p Spent = turned t p AtEnd

abbrev pub paced : SnapBounds → Pace → Call StepReply → Pace
paced bounds t (Began p (Ok done)) = record (turned t p (first_phase bounds)) { begun = t.begun + 1 }
paced bounds t (Began p (Err why)) = t
paced bounds t (Stepped p (Ok reply)) = paced_step t p reply
paced bounds t (Stepped p (Err why)) = t

-- Each identity is placed. Then it proposes and looks in turn, until it is named or spent. It proposes first 1, and
-- then the number that the rule gives for the last view. Each of these is within its bound, and no other reply is
-- given, quiet ones and refusals aside
abbrev pub IsPaced : SnapBounds → List (Call StepReply) → Type 0
IsPaced bounds r = (t : Pace) × Run (paced bounds) (InTime bounds) new_pace r t
