-- what contracts see of a hall of which each answer is noted
use Rattle.std.specs.Prelude.{List, Bool}
use Rattle.model_asked.specs.Replies.{ShownReply}
use Rattle.model_asked.specs.Requests.{Request}
use Rattle.service_hall.specs.HallState.{HallState}
use Rattle.service_hall.specs.declared.rules.Rules.{Rules}

-- the hall, the requests that it was asked, in order, with what it said to each, whether memory was refused, and by which rules it is asked
pub record NotingState : Type 0 where
  pub hall : HallState
  pub said : List (Request × ShownReply)
  pub lost : Bool
  pub rules : Rules
