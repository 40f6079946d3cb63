-- places of pairs
use Rattle.std.specs.Prelude.{◌≡◌, ℕ, ◌<◌, List, length, get_or}

-- a pair of this identity stands at a place
pub record HasAt (pairs : List (ℕ × ℕ)) (at id : ℕ) : Type 0 where
  pub inside : at < length pairs
  pub own : (get_or pairs at (0, 0)).0 ≡ id
