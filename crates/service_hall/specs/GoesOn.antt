-- what an event and its reply leave of a hall (this project's profile; a history of one object: Herlihy and Wing 1990)
use Rattle.std.specs.Prelude.{◌≡◌, [], ◌∷◌, ◌++◌}
use Rattle.model_asked.specs.declared.event.Event.{Event}
use Rattle.model_asked.specs.Replies.{ShownReply}
use Rattle.text_worlds.specs.desk.DeskCalls.{exchange}
use Rattle.service_hall.specs.HallState.{HallState}
use Rattle.service_hall.specs.Halls.{SatisfiesSpec}
use Rattle.service_hall.specs.Serving.{accepted}

-- the hall satisfies the specification, and its config is the same. An accepted event has added itself with its reply
-- to the history, and nothing else has changed
pub record GoesOn (h : HallState) (e : Event) (r : ShownReply) (u : HallState) : Type 0 where
  pub lawful : SatisfiesSpec u
  pub config : u.config ≡ h.config
  pub history : u.history ≡ h.history ++ accepted (exchange e r ∷ [])
