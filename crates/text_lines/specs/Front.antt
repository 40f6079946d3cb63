-- the prefix of bytes beside a front
use Rattle.std.specs.Prelude.{◌≡◌, ◌≢◌, ℕ, ◌≤◌, ◌++◌, List, length, take}

-- so much of the front stands at the beginning
pub record AreAlike (bytes front : List ℕ) (at : ℕ) : Type 0 where
  pub within : at ≤ length front
  pub alike : take at bytes ≡ take at front

-- the bytes do not begin with the front
abbrev pub BeginsOtherwise : List ℕ → List ℕ → Type 0
BeginsOtherwise bytes front = (rest : List ℕ) → bytes ≢ front ++ rest
