-- places beside exchanges
use Rattle.std.specs.Prelude.{ℕ, List, [], ◌∷◌, Bool}
use Rattle.model_asked.specs.declared.exchange.Exchange.{Exchange}
use Rattle.service_lock.specs.declared.kept.Kept.{Kept}
use Rattle.service_lock.specs.KeptState.{KeptState}

abbrev pub kept_of : ℕ → Exchange → Kept
kept_of place x = record { place = place; exchange = x }

-- each exchange with its place
abbrev pub side_by_side : List ℕ → List Exchange → List Kept
side_by_side [] xs = []
side_by_side (p ∷ ps) [] = []
side_by_side (p ∷ ps) (x ∷ xs) = kept_of p x ∷ side_by_side ps xs

abbrev pub kept_log_of : List ℕ → List Exchange → Bool → KeptState
kept_log_of ps xs room = record { items = side_by_side ps xs; room = room }
