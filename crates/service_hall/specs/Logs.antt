-- exchanges whose long replies are stored apart
use Rattle.std.specs.Prelude.{ℕ, List, [], ◌∷◌, map, Bool, true, ◌&&◌, nat_lt, slice_index_or}
use Rattle.model_asked.specs.declared.event.Event.{Event}
use Rattle.model_asked.specs.declared.exchange.Exchange.{Exchange}
use Rattle.model_asked.specs.Replies.{ShownReply}
use Rattle.model_asked.specs.declared.reply.Reply.TheVariants as reply
use Rattle.text_worlds.specs.desk.DeskCalls.{exchange}
use Rattle.service_hall.specs.declared.entry.Entry.{Entry}
use Rattle.service_hall.specs.declared.entry.Short.{Short}
use Rattle.service_hall.specs.declared.entry.Short.TheVariants.{Ok, Quiet, Proposed, Missed, Got, Left, Value, Apart}
use Rattle.service_hall.specs.LogState.{LogState}

-- the reply that a short one means, by the long ones that are stored apart
abbrev pub reply_shown : List ShownReply → Short → ShownReply
reply_shown apart Ok = reply.Ok
reply_shown apart Quiet = reply.Quiet
reply_shown apart (Proposed number) = reply.Proposed number
reply_shown apart Missed = reply.Missed
reply_shown apart (Got number) = reply.Got number
reply_shown apart (Left number) = reply.Left number
reply_shown apart (Value value) = reply.Value value
reply_shown apart (Apart at) = slice_index_or apart at reply.Quiet

-- the reply is short, or it is one of this many long ones
abbrev pub is_inside : ℕ → Short → Bool
is_inside count (Apart at) = nat_lt at count
is_inside count s = true

abbrev pub all_inside : ℕ → List Entry → Bool
all_inside count [] = true
all_inside count (e ∷ es) = is_inside count e.reply && all_inside count es

abbrev pub exchange_shown : List ShownReply → Entry → Exchange
exchange_shown apart e = exchange e.event (reply_shown apart e.reply)

abbrev pub entry_of : Event → Short → Entry
entry_of e short = record { event = e; reply = short }

-- the exchanges that these entries mean, by the long replies
abbrev pub put_together : List ShownReply → List Entry → List Exchange
put_together apart es = map (exchange_shown apart) es

abbrev pub log_of : List ShownReply → List Entry → Bool → LogState
log_of apart es room = record { items = put_together apart es; room = room }
