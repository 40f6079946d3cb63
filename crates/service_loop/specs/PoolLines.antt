-- lines that choose a pool of a server: `pool NAME`
use Rattle.std.specs.Prelude.{◌≡◌, ◌⊎◌, ℕ, ◌<◌, Bool, true, List, [], ◌∷◌, ◌++◌, ◌&&◌, length, get_or, take, drop, codes}
use Rattle.std.specs.String.{string_bytes}
use Rattle.std.specs.declared.alloc.Global.{Global}
use Rattle.std.specs.declared.string.String.{String}
use Rattle.text_lines.specs.Meaning.{same_bytes}
use Rattle.service_loop.specs.declared.porch.Arrival.{Arrival}

-- whether a line, without its LF, chooses the pool of this name
abbrev pub chooses : List ℕ → List ℕ → Bool
chooses name line = same_bytes (take 5 line) (codes "pool ") && same_bytes (drop 5 line) name

-- the pool at this place, of those of these names, is one that a line chooses
abbrev pub IsChosen : List (String Global) → List ℕ → ℕ → Type 0
IsChosen names line at = (at < length names) × ((d : String Global) → chooses (string_bytes (get_or names at d)) line ≡ true)

-- nobody goes on to a pool, or one does, to the pool that this line chooses
abbrev pub GoesToChosen : List (String Global) → List ℕ → List Arrival → List Arrival → Type 0
GoesToChosen names line before after = (after ≡ before) ⊎ ((arrival : Arrival) × (after ≡ before ++ arrival ∷ []) × IsChosen names line arrival.pool)
