-- what a caller of a lock is answered (this project's profile; a history of one object: Herlihy and Wing 1990)
use Rattle.std.specs.Prelude.{◌≡◌, ℕ, List, []}
use mathlib.Core.List.{IsPrefix}
use Rattle.model_steps.specs.declared.refusal.Refusal.{Refusal}
use Rattle.model_asked.specs.declared.config.Config.{Config}
use Rattle.model_asked.specs.declared.event.Event.{Event}
use Rattle.model_asked.specs.declared.event.Event.TheVariants.{Begin}
use Rattle.model_asked.specs.declared.exchange.Exchange.{Exchange}
use Rattle.model_asked.specs.Replies.{ShownReply}
use Rattle.model_asked.specs.declared.reply.Reply.TheVariants as reply
use Rattle.text_worlds.specs.desk.Desk.{owner_reply}
use Rattle.service_hall.specs.Halls.{hall_of, desk_of, SatisfiesSpec, HallMay}

-- The lock's history was lawful for its config, and what the caller had seen was a prefix of it; the hall of that history gives this
-- reply to the event, and the caller has now seen what its history is then
pub record IsAnswered (c : Config) (seen : List Exchange) (e : Event) (r : ShownReply) (now : List Exchange) : Type 0 where
  pub history : List Exchange
  pub lawful : SatisfiesSpec (hall_of c history)
  pub longer : IsPrefix seen history
  pub answer : HallMay (hall_of c history) e r (hall_of c now)

-- a session was refused its begin by the lock's hall, whose history was then this one
pub record IsRefusedBegin (c : Config) (id : ℕ) (why : Refusal) : Type 0 where
  pub now : List Exchange
  pub answer : IsAnswered c [] (Begin id) (reply.Refused why) now

-- some hall of a lawful history, of this config, tells this of a name
pub record IsSomeOwner (c : Config) (number : ℕ) (r : ShownReply) : Type 0 where
  pub history : List Exchange
  pub lawful : SatisfiesSpec (hall_of c history)
  pub answer : r ≡ owner_reply (desk_of (hall_of c history)) number
