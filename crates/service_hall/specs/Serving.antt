-- a hall as a service
use Rattle.std.specs.Prelude.{◌≡◌, List, [], ◌∷◌, Bool, true, false, if◌then◌else◌}
use Rattle.model_steps.specs.declared.refusal.Refusal.{Refusal}
use Rattle.model_steps.specs.declared.refusal.Refusal.TheVariants as refusal
use Rattle.model_asked.specs.declared.config.Config.{Config}
use Rattle.model_asked.specs.declared.exchange.Exchange.{Exchange}
use Rattle.model_asked.specs.declared.reply.Reply.TheVariants as reply
use Rattle.text_worlds.specs.desk.Desk.{owner_reply}
use Rattle.model_asked.specs.Replies.{ShownReply, is_refusal}
use Rattle.model_asked.specs.Requests.{Request}
use Rattle.model_asked.specs.Requests.Request.{Take, OwnerOf}
use Rattle.text_player.specs.Runs.{Runs}
use Rattle.text_player.specs.Turns.{Turn}
use Rattle.text_worlds.specs.Granted.{without}
use Rattle.service_hall.specs.Halls.{hall_of, desk_of, HallMay}
use Rattle.service_hall.specs.HallState.{HallState}

-- a hall applies an event as `HallMay` allows, and reports the owner of a name with nothing changed
abbrev pub HallServes : HallState → Request → ShownReply → HallState → Type 0
HallServes h (Take e) r u = HallMay h e r u
HallServes h (OwnerOf n) r u = (r ≡ owner_reply (desk_of h) n) × (u ≡ h)

-- an allocation failed, or the history was full
abbrev pub is_of_room : Refusal → Bool
is_of_room refusal.NoMemory = true
is_of_room refusal.HistoryFull = true
is_of_room _ = false

abbrev pub wants_room : ShownReply → Bool
wants_room (reply.Refused why) = is_of_room why
wants_room _ = false

-- the turns without those whose reply is `NoMemory` or `HistoryFull`
abbrev pub with_room : List Turn → List Turn
with_room ts = without wants_room ts

-- the exchanges whose events were accepted
abbrev pub accepted : List Exchange → List Exchange
accepted [] = []
accepted (x ∷ xs) = if is_refusal x.reply then accepted xs else x ∷ accepted xs

-- a hall that began with no event has answered these turns in order
abbrev pub HasServed : Config → List Turn → HallState → Type 0
HasServed c ts u = Runs HallServes (hall_of c []) ts u
