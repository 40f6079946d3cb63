-- a caller of a lock, as contracts see it
use Rattle.std.specs.Prelude.{List}
use Rattle.model_asked.specs.declared.exchange.Exchange.{Exchange}
use Rattle.service_lock.specs.declared.kept.Kept.{Kept}

-- its accepted events with their replies and places, in order; and the history as it was when the lock last answered it
pub record CallerState : Type 0 where
  pub kept : List Kept
  pub seen : List Exchange

abbrev pub caller_of : List Kept → List Exchange → CallerState
caller_of kept seen = record { kept = kept; seen = seen }
