-- requests with what was said to them, and who says it: a hall of which it is noted, and a queue of replies that says it again
use Rattle.std.specs.Prelude.{◌≡◌, ◌≢◌, ◌⊎◌, ℕ, List, [], ◌∷◌, ◌++◌, false, true, Option, Some, None, Box}
use Rattle.model_steps.specs.declared.refusal.Refusal.TheVariants as refusal
use Rattle.model_asked.specs.declared.reply.Reply.TheVariants as reply
use Rattle.model_asked.specs.Replies.{ShownReply, with_view}
use Rattle.model_asked.specs.Requests.{Request}
use Rattle.model_asked.specs.Requests.Request.{Take, OwnerOf}
use Rattle.text_player.specs.Turns.{Turn}
use Rattle.text_player.specs.Turns.Turn.{Answered, Reported, Ended, Misread}
use Rattle.service_hall.specs.Reading.{Serves}
use Rattle.service_follow.specs.declared.note.Asked.{Asked}
use Rattle.service_follow.specs.declared.note.Asked.TheVariants.{ToTake, ToTell}
use Rattle.service_follow.specs.declared.note.Note.{Note}
use Rattle.service_follow.specs.NotingState.{NotingState}
use Rattle.service_follow.specs.ReplyQueueState.{ReplyQueueState}

-- the request that was asked
abbrev pub request_of : Asked → Request
request_of (ToTake e) = Take e
request_of (ToTell n) = OwnerOf n

-- the view that is kept beside a reply
abbrev pub seen : {A : Type 0} → Option (Box (List (ℕ × ℕ)) A) → List (ℕ × ℕ)
seen None = []
seen (Some view) = view.value

-- what was said by a note, and to what
abbrev pub said_by : Note → Request × ShownReply
said_by n = (request_of n.asked, with_view n.reply (seen n.view))

-- the requests among turns, in order, with what was said to each: `quit` and bad lines ask for nothing
abbrev pub said : List Turn → List (Request × ShownReply)
said [] = []
said (Answered x ∷ ts) = (Take x.event, x.reply) ∷ said ts
said (Reported n r ∷ ts) = (OwnerOf n, r) ∷ said ts
said (Ended ∷ ts) = said ts
said (Misread bad ∷ ts) = said ts

-- a queue of replies of which nothing was said again so far
abbrev pub reply_queue_of : List (Request × ShownReply) → ReplyQueueState
reply_queue_of left = record { left = left; poisoned = false }

-- the next request that is left is this one
abbrev pub IsNext : List (Request × ShownReply) → Request → Type 0
IsNext [] q = ⊥
IsNext (x ∷ xs) q = x.0 ≡ q

-- a queue of replies says what was said to the request that is next, to whoever asks for just that. It is poisoned only where another is
-- asked, or was before
abbrev pub ReplyQueueReplies : ReplyQueueState → Request → ShownReply → ReplyQueueState → Type 0
ReplyQueueReplies w q r u =
    ((w.poisoned ≡ false) × (u.poisoned ≡ false) × (w.left ≡ (q, r) ∷ u.left)) ⊎ ((u.poisoned ≡ true) × (w.poisoned ≡ false → IsNext w.left q → ⊥))

-- the hall answers, and it is noted; no memory was refused
pub record IsNoted (w : NotingState) (q : Request) (r : ShownReply) (u : NotingState) : Type 0 where
  pub was_well : w.lost ≡ false
  pub serves : Serves w.rules w.hall q r u.hall
  pub rules : u.rules ≡ w.rules
  pub noted : u.said ≡ w.said ++ (q, r) ∷ []
  pub granted : r ≢ reply.Refused refusal.NoMemory

-- but where memory was refused
abbrev pub NotingSays : NotingState → Request → ShownReply → NotingState → Type 0
NotingSays w q r u = u.lost ≡ false → IsNoted w q r u
