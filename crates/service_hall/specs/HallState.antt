-- what a contract sees of a hall
use Rattle.std.specs.Prelude.{List}
use Rattle.model_asked.specs.declared.config.Config.{Config}
use Rattle.model_asked.specs.declared.exchange.Exchange.{Exchange}

-- the config for which it was opened, and its accepted events with their replies
pub record HallState : Type 0 where
  pub config : Config
  pub history : List Exchange
