-- the answers to one side of a transcript, while others may use the service before and after
use Rattle.std.specs.Prelude.{◌≡◌, ℕ, ◌+◌, ◌<◌, ◌≤◌, ◌++◌, length, List, [], true, false, map, flat_map}
use Rattle.model_asked.specs.Replies.{ShownReply}
use Rattle.model_asked.specs.declared.kind.WorldKind.{WorldKind}
use Rattle.model_asked.specs.Requests.{Request}
use Rattle.model_asked.specs.Requests.Request.{Take, OwnerOf}
use Rattle.text_lines.specs.HeldLine.{held}
use Rattle.text_player.specs.Counts.{CountsAnswers}
use Rattle.text_player.specs.Progress.{Progress, at_start}
use Rattle.text_player.specs.Runs.{Runs}
use Rattle.text_player.specs.Summary.{one_if_accepted, one_if_refused, one_if_bad}
use Rattle.text_player.specs.ResponderState.{ResponderState}
use Rattle.text_player.specs.declared.form.TheConstants.{TURN_ROOM}
use Rattle.text_player.specs.Turns.{Turn, asked, answer_of, answers_of}
use Rattle.text_player.specs.Turns.Turn.{Answered, Reported, Ended, Misread}

-- these turns are all of one side so far, which has read up to p
pub record Spoke (turns : List Turn) (s : ResponderState) (p : Progress) : Type 0 where
  pub asked_is : map asked turns ≡ p.asked
  pub line_is : s.line ≡ held p.line
  pub over_is : s.over ≡ p.over
  pub counts : CountsAnswers (answers_of turns) s.summary

-- this side has had no turn
abbrev pub IsSilent : WorldKind → ResponderState → Type 0
IsSilent kind s = (s.kind ≡ kind) × Spoke [] s at_start

-- the text of a turn is appended to the replies, and its answer is counted
pub record IsHeld (text : Turn → List ℕ) (s : ResponderState) (out : List ℕ) (turn : Turn) (s' : ResponderState) (out' : List ℕ) : Type 0 where
  pub added : out' ≡ out ++ text turn
  pub kept : s' ≡ record s { summary = s'.summary }
  pub lines : s'.summary.lines ≡ s.summary.lines + 1
  pub accepted : s'.summary.accepted ≡ s.summary.accepted + one_if_accepted (answer_of turn)
  pub refused : s'.summary.refused ≡ s.summary.refused + one_if_refused (answer_of turn)
  pub bad : s'.summary.bad ≡ s.summary.bad + one_if_bad (answer_of turn)

-- this many of the bytes are taken: at most one line, which adds at most one turn
pub record TakesLine (s : ResponderState) (out bytes : List ℕ) (s' : ResponderState) (out' : List ℕ) (taken : ℕ) : Type 0 where
  pub some : 0 < taken
  pub inside : taken ≤ length bytes
  pub kept : s'.kind ≡ s.kind
  pub longer : length out' ≤ length out + TURN_ROOM
  pub counted : s'.summary.lines ≤ s.summary.lines + 1

-- any point of the input; one before `quit`; and one before `quit` at which no byte of the next line was read
abbrev pub Anywhere : Progress → Type 0
Anywhere p = Unit {0}

abbrev pub GoingOn : Progress → Type 0
GoingOn p = p.over ≡ false

abbrev pub Afresh : Progress → Type 0
Afresh p = (p.over ≡ false) × (p.line ≡ [])

module _ {T : Type 0} (may : T → Request → ShownReply → T → Type 0) where
  -- the service answers one turn, and this is the side of the transcript after it
  abbrev pub IsTurnOf : T → ResponderState → Turn → T → ResponderState → Type 0
  IsTurnOf w s (Answered x) u s' = may w (Take x.event) x.reply u × (s' ≡ s)
  IsTurnOf w s (Reported n r) u s' = may w (OwnerOf n) r u × (s' ≡ s)
  IsTurnOf w s Ended u s' = (u ≡ w) × (s' ≡ record s { over = true })
  IsTurnOf w s (Misread bad) u s' = (u ≡ w) × (s' ≡ s)

  -- each turn has this text
  module _ (text : Turn → List ℕ) where
    -- by these turns, which the service allows, it goes from w to u. Their text is appended to the replies, and this
    -- side of the transcript has read up to what follows
    pub record SaysBy (more : List Turn) (w : T) (s : ResponderState) (out : List ℕ) (u : T) (s' : ResponderState) (out' : List ℕ) (Was : Progress → Type 0) (next : Progress → Progress) : Type 0 where
      pub run : Runs may w more u
      pub text_is : out' ≡ out ++ flat_map text more
      pub goes_on : (turns : List Turn) (p : Progress) → Spoke turns s p → Was p → Spoke (turns ++ more) s' (next p)

    -- by some turns
    abbrev pub SaysFrom : (Progress → Type 0) → T → ResponderState → List ℕ → T → ResponderState → List ℕ → (Progress → Progress) → Type 0
    SaysFrom Was w s out u s' out' next = (more : List Turn) × SaysBy more w s out u s' out' Was next

    abbrev pub Says : T → ResponderState → List ℕ → T → ResponderState → List ℕ → (Progress → Progress) → Type 0
    Says w s out u s' out' next = SaysFrom Anywhere w s out u s' out' next
