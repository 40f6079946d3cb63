-- a hall with the same desk and fewer events (this project's profile; that a log is cut to what its state needs: Gray
-- 1978)
use Rattle.std.specs.Prelude.{◌≡◌, ◌<◌, List, length, filter}
use Rattle.model_asked.specs.declared.exchange.Exchange.{Exchange}
use Rattle.service_hall.specs.Halls.{desk_of, SatisfiesSpec}
use Rattle.service_hall.specs.HallState.{HallState}
use Rattle.service_hall.specs.DeskParts.{is_renaming}

-- the exchanges of renaming among these, in their order
abbrev pub renaming_of : List Exchange → List Exchange
renaming_of xs = filter (λ x. is_renaming x.event) xs

-- the other hall satisfies the specification of a hall, and its config and desk are the same. It has the same exchanges
-- of renaming, and fewer exchanges in all
pub record IsCompacted (h new : HallState) : Type 0 where
  pub config : new.config ≡ h.config
  pub lawful : SatisfiesSpec new
  pub desk : desk_of new ≡ desk_of h
  pub renaming : renaming_of new.history ≡ renaming_of h.history
  pub fewer : length new.history < length h.history
