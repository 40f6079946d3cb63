-- what a server says until an identity holds a number: `seek` once in the wide world, elsewhere `probe` as often as it takes
use Rattle.std.specs.Prelude.{ℕ, Bool, true, false}
use Rattle.model_asked.specs.declared.config.TheConstants.{MOST_NUMBERS}
use Rattle.model_asked.specs.declared.event.Event.{Event}
use Rattle.model_asked.specs.declared.event.Event.TheVariants as event
use Rattle.model_asked.specs.Replies.{ShownReply}
use Rattle.text_player.specs.Turns.{Turn}
use Rattle.text_player.specs.Turns.Turn.{Answered}

-- the event by which an identity searches for a number, where the world is wide or is not
abbrev pub searching : Bool → ℕ → Event
searching true id = event.Seek id
searching false id = event.Probe id

-- how often it is said at most
abbrev pub most_said : Bool → ℕ
most_said true = 1
most_said false = MOST_NUMBERS

-- it was answered so
abbrev pub searched : Bool → ℕ → ShownReply → Turn
searched wide id r = Answered (record { event = searching wide id; reply = r })
