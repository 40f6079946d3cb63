-- what a connection takes and sends in a turn of the loop
use Rattle.std.specs.Prelude.{◌≡◌, ◌⊎◌, ◌+◌, ◌-◌, ◌<◌, ◌≤◌, ℕ, ◌++◌, ◌||◌, ◌&&◌, ◌==◌, not, if◌then◌else◌, List, [], get_or, Bool, true, false, length, take, Option}
use Rattle.std.specs.Io.KnownBytes.{Appends, Consumes, IsAtEnd}
use Rattle.model_asked.specs.declared.kind.WorldKind.{WorldKind}
use Rattle.model_asked.specs.Replies.{ShownReply}
use Rattle.model_asked.specs.Requests.{Request}
use Rattle.text_lines.specs.Lines.{has_no_lf, whole_lines}
use Rattle.text_player.specs.Progress.{Progress, after_bytes}
use Rattle.text_player.specs.Runs.{Runs}
use Rattle.text_player.specs.Says.{Spoke, IsSilent}
use Rattle.text_player.specs.Texts.{replies_of}
use Rattle.text_player.specs.Turns.{Turn}
use Rattle.text_player.specs.declared.form.TheConstants.{TURN_ROOM}
use Rattle.service_loop.specs.Asking.{MayAsk, none_own}
use Rattle.service_loop.specs.Reported.{behind, bytes_of, ends_of}
use Rattle.service_loop.specs.BuffersState.{BuffersState}
use Rattle.service_loop.specs.declared.peek.Peek.{Peek}
use Rattle.service_loop.specs.declared.buffers.TheConstants.{UNSENT_ROOM, MOST_LINES}

-- nothing came, nothing was said
pub record AreNewBuffers (kind : WorldKind) (s : BuffersState) : Type 0 where
  pub silent : IsSilent kind s.responder
  pub inbox : s.inbox ≡ []
  pub outbox : s.outbox ≡ []
  pub ended : s.ended ≡ false
  pub broken : s.broken ≡ false
  pub in_line : s.in_line ≡ false

-- whether a line was begun, and not ended, once these bytes were taken
abbrev pub goes_on_in_line : Bool → List ℕ → Bool
goes_on_in_line in_line bytes = if length bytes == 0 then in_line else not (get_or bytes (length bytes - 1) 0 == 10)

-- behind what waited to be taken these bytes came, and the end where it says so. A prefix of all that is taken, by these turns: those of the
-- lines that an LF ends, and no other. The rest waits, and so do the replies to them, behind those that waited to be sent, but where it is at
-- fault. Once the end is taken nothing more is, and a line that no LF has ended is dropped
pub record Takes (turns : List Turn) (came : List ℕ) (ends : Bool) (s s' : BuffersState) : Type 0 where
  pub taken : List ℕ
  pub rest : List ℕ
  pub parts : s.inbox ++ came ≡ taken ++ rest
  pub goes_on : (before : List Turn) (p : Progress) → Spoke before s.responder p → Spoke (before ++ turns) s'.responder (after_bytes s.responder.kind p taken)
  pub kind_is : s'.responder.kind ≡ s.responder.kind
  pub ended_is : s'.ended ≡ (s.ended || ends)
  pub in_line_is : s'.in_line ≡ goes_on_in_line s.in_line taken
  pub kept : s'.broken ≡ false → (s'.inbox ≡ rest) × (s'.outbox ≡ s.outbox ++ replies_of turns) × (s.broken ≡ false)

-- No line of these bytes is one that the server answers by itself, as long as `quit` was not answered. The end of a line that was begun before is no line
abbrev pub TakesNoOwn : BuffersState → List ℕ → Type 0
TakesNoOwn s taken = s.responder.over ≡ false → none_own (behind s.in_line (whole_lines taken)) ≡ true

-- with no LF among the bytes that are taken there is no turn, whatever this side has said before: a line is answered once its LF is taken
abbrev pub NeedsLf : Type 0
NeedsLf = (turns before : List Turn) (came : List ℕ) (ends : Bool) (s s' : BuffersState) (p : Progress) →
    (t : Takes turns came ends s s') → Spoke before s.responder p → has_no_lf t.taken ≡ true → turns ≡ []

-- the same, where the bytes came of a stream that had so much left: at most 64 KiB, and the end only where it had no more
pub record TakesOf (turns : List Turn) (left : Option (List ℕ)) (s : BuffersState) (left' : Option (List ℕ)) (s' : BuffersState) : Type 0 where
  pub came : List ℕ
  pub ends : Bool
  pub few : length came ≤ 65536
  pub gave : Consumes left left' came
  pub at_end : ends ≡ true → IsAtEnd left'
  pub takes : Takes turns came ends s s'

-- it is at fault, or at the end of what comes with all that was said sent
abbrev pub is_done : BuffersState → Bool
is_done s = s.broken || (s.ended && (length s.outbox == 0))

-- there is no room for one reply more, or no line more is counted
abbrev pub IsFull : BuffersState → Type 0
IsFull s = (UNSENT_ROOM < length s.outbox + TURN_ROOM) ⊎ (MOST_LINES < s.responder.summary.lines)

-- something waits to be sent, and its stream takes it; and more may come and be taken
abbrev pub CanSend : Bool → BuffersState → Type 0
CanSend writable s = (s.broken ≡ false) × (writable ≡ true) × (0 < length s.outbox)

abbrev pub CanTake : BuffersState → Type 0
CanTake s = (s.broken ≡ false) × (s.ended ≡ false) × (IsFull s → ⊥)

-- nothing that came waits to be taken, unless it is full, at fault or at its end, or what waits asks who holds numbers, takes one, or begins to: so
-- where another line waited and there was room for a reply, a line at least was taken
abbrev pub HasTakenAll : BuffersState → Type 0
HasTakenAll s = s.broken ≡ false → s.ended ≡ false → 0 < length s.inbox → IsFull s ⊎ MayAsk s.inbox

-- by some turns, which lead the service from w to u; and no line is taken that the server answers by itself
abbrev pub SomeTaken : {T : Type 0} → (T → Request → ShownReply → T → Type 0) → T → T → Option (List ℕ) → BuffersState → Option (List ℕ) → BuffersState → Type 0
SomeTaken may w u left s left' s' = (turns : List Turn) × Runs may w turns u × (of : TakesOf turns left s left' s') × TakesNoOwn s of.takes.taken

-- of the first so many bytes that waited a prefix is taken
pub record TakesFirst (turns : List Turn) (count : ℕ) (s s' : BuffersState) : Type 0 where
  pub takes : Takes turns [] false s s'
  pub rest : List ℕ
  pub within : takes.taken ++ rest ≡ take count s.inbox

-- nothing is taken but the end, if it comes, and nothing is said
pub record TakesEnd (left : Option (List ℕ)) (s : BuffersState) (left' : Option (List ℕ)) (s' : BuffersState) : Type 0 where
  pub takes : TakesOf [] left s left' s'
  pub none : takes.takes.taken ≡ []

-- a prefix is taken of what was looked at, and nothing else: the end only where it was looked at, behind all that waited
pub record TakesPeeked (turns : List Turn) (peek : Option Peek) (left : Option (List ℕ)) (s : BuffersState) (left' : Option (List ℕ)) (s' : BuffersState) : Type 0 where
  pub takes : TakesOf turns left s left' s'
  pub rest : List ℕ
  pub within : takes.takes.taken ++ rest ≡ take (bytes_of peek) s.inbox
  pub at_end : takes.ends ≡ true → (ends_of peek ≡ true) × (takes.takes.taken ≡ s.inbox)

-- a prefix of what waited was sent, and nothing else; nothing, where it was at fault before
pub record SendsTo (gone : Option (List ℕ)) (s : BuffersState) (gone' : Option (List ℕ)) (s' : BuffersState) : Type 0 where
  pub sent : List ℕ
  pub gained : Appends gone gone' sent
  pub parts : s.outbox ≡ sent ++ s'.outbox
  pub responder_is : s'.responder ≡ s.responder
  pub inbox_is : s'.inbox ≡ s.inbox
  pub ended_is : s'.ended ≡ s.ended
  pub in_line_is : s'.in_line ≡ s.in_line
  pub whole : s'.broken ≡ false → s.broken ≡ false
  pub quiet : s.broken ≡ true → sent ≡ []
