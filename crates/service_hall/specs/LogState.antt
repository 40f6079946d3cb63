-- what a contract sees of exchanges in order
use Rattle.std.specs.Prelude.{List, Bool}
use Rattle.model_asked.specs.declared.exchange.Exchange.{Exchange}

-- the exchanges, and whether there is room for one more
pub record LogState : Type 0 where
  pub items : List Exchange
  pub room : Bool
