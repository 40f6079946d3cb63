-- what contracts see of a queue of replies
use Rattle.std.specs.Prelude.{List, Bool}
use Rattle.model_asked.specs.Replies.{ShownReply}
use Rattle.model_asked.specs.Requests.{Request}

-- the requests that are left, in order, with what was said to each; and whether another was asked than was next
pub record ReplyQueueState : Type 0 where
  pub left : List (Request × ShownReply)
  pub poisoned : Bool
