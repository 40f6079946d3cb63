-- What an append did.
use Rattle.std.specs.Prelude.{◌<◌, ◌≤◌, ℕ, List}
use Rattle.service_log.specs.declared.store.Append.{Append}
use Rattle.service_log.specs.declared.store.Append.TheVariants.{At, Nowhere}
use Rattle.service_log.specs.declared.store.TheConstants.{MOST_PLACES}
use Rattle.service_log.specs.Places.{IsTaken, Lands, Same}

-- the entry stands at the first place from this one on where nothing stood, or nothing was written and something stands at this place
abbrev pub HasAppended : (ℕ → List ℕ → Type 0) → (ℕ → List ℕ → Type 0) → (ℕ → Type 0) → ℕ → List ℕ → Append → Type 0
HasAppended before after lacked place entry (At at) = Lands before after lacked place entry at × (at < MOST_PLACES)
HasAppended before after lacked place entry Nowhere = Same before after × IsTaken after place

-- an entry was offered at places from this one on
abbrev pub IsOffered : ℕ → Append → Type 0
IsOffered place (At at) = (place ≤ at) × (at < MOST_PLACES)
IsOffered place Nowhere = Unit {0}
