-- words and their seats, as callers see them, and what is reported of participants that have ended
use Rattle.atomic_table.specs.Seated.{TableId}
use Rattle.std.specs.Prelude.{ℕ, ◌≡◌, ◌≢◌, ◌≤◌, true, List, [], ◌∷◌, Option, Some, None}
use Rattle.model_steps.specs.Machine.{Reaches}
use Rattle.model_steps.specs.declared.participant.Participant.{Participant}
use Rattle.words_machine.specs.declared.seat_view.Stand.{Stand}
use Rattle.words_machine.specs.declared.seat_view.SeatView.{SeatView}
use Rattle.words_machine.specs.SeatViews.{own, lone_view}
use Rattle.words_machine.specs.RunSteps.{ended_at}
use Rattle.words_machine.specs.WordLaw.{WordLaw}

-- which table, and how many seats it has at most
pub record WordsId : Type 0 where
  pub table : TableId
  pub most : ℕ

abbrev pub words_of : TableId → ℕ → WordsId
words_of table most = record { table = table; most = most }

-- the seats that are still to be dealt: of which words, and how many were dealt
pub record DealerId : Type 0 where
  pub words : WordsId
  pub dealt : ℕ

abbrev pub dealer_of : WordsId → ℕ → DealerId
dealer_of words dealt = record { words = words; dealt = dealt }

-- which seat of which words it is
pub record SeatId : Type 0 where
  pub words : WordsId
  pub number : ℕ

abbrev pub seat_of : WordsId → ℕ → SeatId
seat_of words number = record { words = words; number = number }

-- a participant that has not ended: of which words, in which seat, for which identity, at which program, and how many accesses
-- it has made
pub record RunningId (P : Type 0) : Type 0 where
  pub words : WordsId
  pub number : ℕ
  pub identity : ℕ
  pub program : P
  pub accesses : ℕ

abbrev pub running_of : {P : Type 0} → WordsId → ℕ → ℕ → P → ℕ → RunningId P
running_of words number identity u accesses = record { words = words; number = number; identity = identity; program = u; accesses = accesses }

-- a participant that has ended: of which words, in which seat, for which identity, at which program and with what; how many had
-- begun then, itself among them; and how many accesses it made
pub record EndedRun (P O : Type 0) : Type 0 where
  pub words : WordsId
  pub number : ℕ
  pub identity : ℕ
  pub program : P
  pub outcome : O
  pub entered : ℕ
  pub accesses : ℕ

-- that a participant of these words, of this number, has ended with this
pub record ClaimId (O : Type 0) : Type 0 where
  pub words : WordsId
  pub number : ℕ
  pub outcome : O

module _ {P O : Type 0} where
  abbrev pub claim_of : EndedRun P O → ClaimId O
  claim_of e = record { words = e.words; number = e.number; outcome = e.outcome }

  -- the number of seats of which the first view speaks, and what its first participant tells
  abbrev pub most_in : List (SeatView P O) → ℕ
  most_in [] = 0
  most_in (v ∷ vs) = v.most

  abbrev pub entered_by : List (Stand P O) → ℕ
  entered_by [] = 0
  entered_by (s ∷ ss) = s.entered

  abbrev pub accesses_by : List (Stand P O) → ℕ
  accesses_by [] = 0
  accesses_by (s ∷ ss) = s.accesses

  abbrev pub entered_in : List (SeatView P O) → ℕ
  entered_in [] = 0
  entered_in (v ∷ vs) = entered_by v.stands

  abbrev pub accesses_in : List (SeatView P O) → ℕ
  accesses_in [] = 0
  accesses_in (v ∷ vs) = accesses_by v.stands

  -- as the views of its seat tell
  abbrev pub ended_run : TableId → ℕ → ℕ → P → O → List (SeatView P O) → EndedRun P O
  ended_run table number identity u outcome views =
      record { words = words_of table (most_in views); number = number; identity = identity; program = u; outcome = outcome; entered = entered_in views; accesses = accesses_in views }

  -- what a claim says, as the views of its seat tell
  abbrev pub claim_at : TableId → ℕ → O → List (SeatView P O) → ClaimId O
  claim_at table number outcome views = record { words = words_of table (most_in views); number = number; outcome = outcome }

  -- these are the view of one seat alone, whose participant has ended with this, for this identity and at this program
  abbrev pub IsOfEnded : ℕ → ℕ → P → O → List (SeatView P O) → Type 0
  IsOfEnded number identity u outcome views = views ≡ lone_view (most_in views) (ended_at number identity u outcome (accesses_in views) (entered_in views)) ∷ []

-- the participant of which the first view tells first
abbrev pub participant_by : {P O : Type 0} → List (Stand P O) → Option (Participant P)
participant_by [] = None
participant_by (s ∷ ss) = s.participant

abbrev pub participant_in : {P O : Type 0} → List (SeatView P O) → Option (Participant P)
participant_in [] = None
participant_in (v ∷ vs) = participant_by v.stands

abbrev pub program_or : {P : Type 0} → P → Option (Participant P) → P
program_or first None = first
program_or first (Some v) = v.program

module _ {P R O : Type 0} (law : WordLaw P R O) where
  -- the program at which the participant of this number stands, as the views of its seat tell
  abbrev pub program_in : ℕ → ℕ → List (SeatView P O) → P
  program_in number identity views = program_or (law.start (most_in views) (own number) identity) (participant_in views)

  -- There is a list of calls, of which the machine's own facts hold, after which the participant stands at that program, for that
  -- identity, and got that outcome. It made as many steps as accesses. As many have begun as had entered
  pub record HasRun (e : EndedRun P O) : Type 0 where
    pub w : law.State
    pub r : List law.Call
    pub holds : law.Holds e.words.most w r
    pub after : Reaches law.machine (law.start_of e.words.most) w r
    pub stands : law.self w (own e.number) ≡ Some (record { identity = e.identity; program = e.program; ended = true })
    pub outcome_is : law.outcome_of (own e.number) r ≡ Some e.outcome
    pub accesses_are : e.accesses ≡ law.steps_of (own e.number) r
    pub entered_are : law.begun_in r ≡ e.entered
    pub counted : e.entered ≤ e.words.most

  -- there is one after which both stand so and learnt what they ended with, and they are two
  pub record HaveRun (a b : EndedRun P O) : Type 0 where
    pub w : law.State
    pub r : List law.Call
    pub holds : law.Holds a.words.most w r
    pub after : Reaches law.machine (law.start_of a.words.most) w r
    pub apart : a.number ≢ b.number
    pub one_stands : law.self w (own a.number) ≡ Some (record { identity = a.identity; program = a.program; ended = true })
    pub other_stands : law.self w (own b.number) ≡ Some (record { identity = b.identity; program = b.program; ended = true })
    pub one : law.outcome_of (own a.number) r ≡ Some a.outcome
    pub other : law.outcome_of (own b.number) r ≡ Some b.outcome

  -- there is one after which both that these claims name learnt what they say
  pub record HaveReported (a b : ClaimId O) : Type 0 where
    pub w : law.State
    pub r : List law.Call
    pub holds : law.Holds a.words.most w r
    pub after : Reaches law.machine (law.start_of a.words.most) w r
    pub one : law.outcome_of (own a.number) r ≡ Some a.outcome
    pub other : law.outcome_of (own b.number) r ≡ Some b.outcome
