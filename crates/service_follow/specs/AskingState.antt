-- what contracts see of a service that notes the reads that it is asked for
use Rattle.std.specs.Prelude.{List, Bool}
use Rattle.model_asked.specs.Requests.{Request}

-- the reads, in order, whether it was asked for nothing else, and whether memory was refused
pub record AskingState : Type 0 where
  pub asked : List Request
  pub only : Bool
  pub lost : Bool
