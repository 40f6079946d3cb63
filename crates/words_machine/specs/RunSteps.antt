-- what each kind of step tells the seat that makes it
use Rattle.std.specs.Prelude.{◌≡◌, ℕ, ◌+◌, true, List, [], ◌∷◌, Option, Some, None, IsSome}
use mathlib.Core.Option.{some}
use lib.ListN.{get_elem?}
use Rattle.atomic_table.specs.Table.{Me, Step}
use Rattle.model_steps.specs.declared.access.Access.TheVariants.{Read, Write}
use Rattle.model_steps.specs.declared.access.Answer.{Answer}
use Rattle.model_steps.specs.declared.access.Answer.TheVariants.{Value, Done}
use Rattle.model_steps.specs.declared.participant.Participant.{Participant}
use Rattle.model_steps.specs.declared.note.Note.{Note}
use Rattle.model_steps.specs.Calls.{outcome_in}
use Rattle.model_steps.specs.Note.{ends}
use Rattle.model_steps.specs.Steps.{ProgramSteps}
use Rattle.words_machine.specs.declared.seat_view.Stand.{Stand}
use Rattle.words_machine.specs.declared.seat_view.SeatView.{SeatView}
use Rattle.words_machine.specs.SeatViews.{own, stand_at, lone_view}
use Rattle.words_machine.specs.WordLaw.{WordLaw, IsAlike, IsOwnAccess, GoesOn, program_at, moved}
use Rattle.words_machine.specs.RunRule.{IsRunning}

abbrev pub accesses_by : {P O : Type 0} → List (Stand P O) → ℕ
accesses_by [] = 0
accesses_by (s ∷ ss) = s.accesses

-- the accesses of the first participant in a view
abbrev pub accesses_in : {S P O : Type 0} → Me S (SeatView P O) → ℕ
accesses_in me = accesses_by me.0.stands

-- the participant that comes first has ended, or there is none
abbrev pub IsAtRest : {P O : Type 0} → List (Stand P O) → Type 0
IsAtRest [] = Unit {0}
IsAtRest (s ∷ ss) = IsSome s.outcome

-- a participant that has ended, for this identity, at this program and with this, as its own view tells
abbrev pub ended_at : {P O : Type 0} → ℕ → ℕ → P → O → ℕ → ℕ → Stand P O
ended_at number identity u outcome accesses entered = stand_at number (Some (record { identity = identity; program = u; ended = true })) (Some outcome) accesses entered

module _ {P R O : Type 0} (law : WordLaw P R O) where
  -- the view is a seat's in a table that keeps the rule
  pub record IsUnderRule (v : SeatView P O) : Type 0 where
    pub words : List ℕ
    pub views : List (SeatView P O)
    pub seat : ℕ
    pub kept : IsRunning law v.most words views
    pub there : get_elem? views seat ≡ some v

  -- and so many have begun
  abbrev pub IsUnder : SeatView P O → ℕ → Type 0
  IsUnder v begun = (u : IsUnderRule v) × (law.begun_in u.kept.r ≡ begun)

  -- a look at a word changes nothing, and no seat looks whose participant is to be stepped
  abbrev pub Looks : {S : Type 0} → Step S → Me S (SeatView P O) → ℕ → Me S (SeatView P O) → Type 0
  Looks st before found after = (after ≡ before) × IsAtRest before.0.stands × IsUnderRule after.0

  -- the participant of this number has ended with this, for this identity and at this program, in the view of a seat that has no
  -- other
  pub record HasEnded {S : Type 0} (most : ℕ) (number identity : ℕ) (u : P) (outcome : O) (me : Me S (SeatView P O)) : Type 0 where
    pub accesses : ℕ
    pub entered : ℕ
    pub me_is : me ≡ (lone_view most (ended_at number identity u outcome accesses entered), [])
    pub under : IsUnder me.0 entered

  -- the participant of this number has come here by a step that said this
  pub record HasStepped {S : Type 0} (most number identity : ℕ) (u : P) (note : Note O) (before after : Me S (SeatView P O)) : Type 0 where
    pub accesses : ℕ
    pub entered : ℕ
    pub one_more : accesses_in after ≡ accesses_in before + 1
    pub me_is : after ≡ (lone_view most (stand_at number (Some (record { identity = identity; program = u; ended = ends note })) (outcome_in note) accesses entered), [])
    pub under : IsUnder after.0 entered

module _ {P R O : Type 0} (program : ProgramSteps P R ℕ O) (law : WordLaw P R O) where
  -- the program of a number: that of who begins with this identity, until it does
  abbrev pub standing : ℕ → ℕ → ℕ → Option (Participant P) → P
  standing most number identity o = program_at program law most (own number) identity o

  -- the participant of this number and identity, after this answer to its program
  abbrev pub stand_after : ℕ → ℕ → P → Answer ℕ → ℕ → ℕ → Stand P O
  stand_after number identity u got accesses begun = stand_at number (Some (moved program law identity u got)) (outcome_in (program.note u got)) (accesses + 1) begun

  -- the participant of this number stands here for this identity, in the view of a seat that has no other, and has not ended
  pub record Stands {S : Type 0} (most number identity : ℕ) (u : P) (me : Me S (SeatView P O)) : Type 0 where
    pub participant : Option (Participant P)
    pub accesses : ℕ
    pub entered : ℕ
    pub stands : standing most number identity participant ≡ u
    pub goes_on : GoesOn program law (own number) identity participant
    pub within : IsOwnAccess program law most (program.next u)
    pub me_is : me ≡ (lone_view most (stand_at number participant None accesses entered), [])

  -- it has got this answer
  pub record HasGot {S : Type 0} (most number identity : ℕ) (u : P) (got : Answer ℕ) (before after : Me S (SeatView P O)) : Type 0 where
    pub begun : ℕ
    pub is : after ≡ (lone_view most (stand_after number identity u got (accesses_in before) begun), [])
    pub under : IsUnder law after.0 begun

  -- the load of the word of a register: the participant that stands here has read it
  pub record Reads {S : Type 0} (st : Step S) (before : Me S (SeatView P O)) (found : ℕ) (after : Me S (SeatView P O)) : Type 0 where
    pub most : ℕ
    pub number : ℕ
    pub identity : ℕ
    pub u : P
    pub stands : Stands {S = S} most number identity u before
    pub alike : IsAlike (program.next u) (Read st.word)
    pub got : HasGot {S = S} most number identity u (Value found) before after

  -- the store of the word of a register: the participant that stands here has written it
  pub record Writes {S : Type 0} (st : Step S) (before : Me S (SeatView P O)) (stored : ℕ) (after : Me S (SeatView P O)) : Type 0 where
    pub most : ℕ
    pub number : ℕ
    pub identity : ℕ
    pub u : P
    pub stands : Stands {S = S} most number identity u before
    pub alike : IsAlike (program.next u) (Write st.word stored)
    pub got : HasGot {S = S} most number identity u Done before after
