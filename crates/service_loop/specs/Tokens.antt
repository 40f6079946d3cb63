-- the token that is asked for behind a number: `put` of any value, to which a service that gives tokens replies with the next one
use Rattle.std.specs.Prelude.{◌≡◌, ℕ, Bool, true, false, if◌then◌else◌, List, [], ◌∷◌, ◌++◌, Option, Some, None, codes, decimal}
use Rattle.model_asked.specs.declared.event.Event.{Event}
use Rattle.model_asked.specs.declared.event.Event.TheVariants as event
use Rattle.model_asked.specs.declared.reply.Reply.{Reply}
use Rattle.model_asked.specs.declared.reply.Reply.TheVariants as reply
use Rattle.model_asked.specs.Replies.{ShownReply}
use Rattle.text_lines.specs.Replies.{reply_text, reply_words}
use Rattle.text_player.specs.Turns.{Turn}
use Rattle.text_player.specs.Turns.Turn.{Answered}

abbrev pub raised : ℕ → ShownReply → Turn
raised id r = Answered (record { event = event.Put id 0; reply = r })

-- a number was taken
abbrev pub is_got : {V : Type 0} → Reply V → Bool
is_got (reply.Got number) = true
is_got _ = false

-- whether one is asked for, and what is replied to who got a number
abbrev pub AsksToken : Bool → Bool → ℕ → List Turn → Option ShownReply → Type 0
AsksToken false got id turns token = (turns ≡ []) × (token ≡ None)
AsksToken true got id turns token = (r : ShownReply) × (turns ≡ raised id r ∷ []) × (token ≡ (if got then Some r else None))

-- the event of that, where the answers are prefetched
abbrev pub token_events : Bool → ℕ → List Event
token_events true id = event.Put id 0 ∷ []
token_events false id = []

-- a token stands behind the number; where none is given, the refusal is told
abbrev pub told_text : ShownReply → ShownReply → List ℕ
told_text answer (reply.Value token) = reply_words answer ++ codes " " ++ decimal token ++ codes "\n"
told_text answer (reply.Refused why) = reply_text (reply.Refused why)
told_text answer _ = reply_text answer

-- the line that who takes a number is answered
abbrev pub taken_text : ShownReply → Option ShownReply → List ℕ
taken_text answer None = reply_text answer
taken_text answer (Some r) = told_text answer r
