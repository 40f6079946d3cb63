-- the replies of a hall, and its history
use Rattle.std.specs.Prelude.{◌≡◌, ◌⊎◌, ℕ, List, [], ◌∷◌, ◌++◌, length, ◌≤◌, true, nat_le, if◌then◌else◌, Option, Some, None}
use Rattle.model_steps.specs.declared.refusal.Refusal.{Refusal}
use Rattle.model_steps.specs.declared.refusal.Refusal.TheVariants as refusal
use Rattle.model_asked.specs.declared.config.Config.{Config}
use Rattle.model_asked.specs.declared.event.Event.{Event}
use Rattle.model_asked.specs.declared.exchange.Exchange.{Exchange}
use Rattle.model_asked.specs.Replies.{ShownReply}
use Rattle.model_asked.specs.declared.reply.Reply.TheVariants as reply
use Rattle.model_asked.specs.Config.{gives_names}
use Rattle.text_worlds.specs.desk.Desk.{fresh_desk, desk_reply, desk_refusal}
use Rattle.text_worlds.specs.desk.DeskCalls.{exchange}
use Rattle.text_worlds.specs.desk.DeskValue.{DeskValue}
use Rattle.service_hall.specs.HallState.{HallState}
use Rattle.service_hall.specs.Replay.{replay, AreAccepted}

abbrev pub hall_of : Config → List Exchange → HallState
hall_of config history = record { config = config; history = history }

-- the desk is the replay of the history
abbrev pub desk_of : HallState → DeskValue
desk_of h = replay (fresh_desk h.config) h.history

-- the config's world gives names. The history has at most 1,000,000 events, each accepted, with the reply that was due
pub record SatisfiesSpec (h : HallState) : Type 0 where
  pub named : gives_names h.config.world ≡ true
  pub accepted : AreAccepted (fresh_desk h.config) h.history
  pub few : length h.history ≤ 1000000

-- a history of 1,000,000 events is full, which is the last reason to refuse an event
abbrev pub full_unless : Option Refusal → ℕ → Option Refusal
full_unless (Some why) count = Some why
full_unless None count = if nat_le 1000000 count then Some refusal.HistoryFull else None

-- why an event would be refused, failed allocations aside
abbrev pub hall_refusal : HallState → Event → Option Refusal
hall_refusal h e = full_unless (desk_refusal (desk_of h) e) (length h.history)

-- the hall with one more event at the end of its history, with the reply of the desk
abbrev pub longer : HallState → Event → HallState
longer h e = hall_of h.config (h.history ++ exchange e (desk_reply (desk_of h) e) ∷ [])

-- the reply to an event if no allocation fails, and the hall after it
abbrev pub reply_unless : Option Refusal → HallState → Event → ShownReply
reply_unless None h e = desk_reply (desk_of h) e
reply_unless (Some why) h e = reply.Refused why

abbrev pub after_unless : Option Refusal → HallState → Event → HallState
after_unless None h e = longer h e
after_unless (Some why) h e = h

abbrev pub hall_reply : HallState → Event → ShownReply
hall_reply h e = reply_unless (hall_refusal h e) h e

abbrev pub hall_after : HallState → Event → HallState
hall_after h e = after_unless (hall_refusal h e) h e

-- a hall may answer an event with this reply and then be in this state. They are the one reply and the one state, or
-- `NoMemory` with nothing changed if no other refusal is due
abbrev pub HallMay : HallState → Event → ShownReply → HallState → Type 0
HallMay h e r u =
    ((r ≡ hall_reply h e) × (u ≡ hall_after h e)) ⊎ ((r ≡ reply.Refused refusal.NoMemory) × (u ≡ h) × (hall_refusal h e ≡ None))
