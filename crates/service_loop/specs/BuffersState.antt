-- what a contract sees of a connection without its stream
use Rattle.std.specs.Prelude.{ℕ, List, Bool}
use Rattle.text_player.specs.ResponderState.{ResponderState}

-- one side of a transcript, what came and is not taken yet, what was said and is not sent yet, whether the end of what comes was taken, whether
-- it is at fault: then nothing more is read or sent; and whether a line was begun, and not ended, by what was taken last
pub record BuffersState : Type 0 where
  pub responder : ResponderState
  pub inbox : List ℕ
  pub outbox : List ℕ
  pub ended : Bool
  pub broken : Bool
  pub in_line : Bool
