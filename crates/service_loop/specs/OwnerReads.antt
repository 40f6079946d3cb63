-- reads of a stream whose clients own their identities
use Rattle.std.specs.Prelude.{◌≡◌, ℕ, List, ◌++◌, Option}
use Rattle.std.specs.Io.KnownBytes.{Consumes}
use Rattle.service_loop.specs.OwnerLines.{with_bytes}
use Rattle.service_loop.specs.OwnerState.{OwnerState}

-- bytes were read, and are on their way
abbrev pub Fills : Option (List ℕ) → Option (List ℕ) → OwnerState → OwnerState → Type 0
Fills left left' s s' = (came : List ℕ) × Consumes left left' came × (s' ≡ with_bytes s came)

-- and the first of what is ready is given
abbrev pub GivesOwned : Option (List ℕ) → Option (List ℕ) → OwnerState → OwnerState → List ℕ → Type 0
GivesOwned left left' s s' given = (filled : OwnerState) × Fills left left' s filled × (filled.ready ≡ given ++ s'.ready) × (s'.begun ≡ filled.begun)
