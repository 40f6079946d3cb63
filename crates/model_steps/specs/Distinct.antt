-- places that are distinct
use Rattle.std.specs.Prelude.{◌≡◌, ℕ, Option, Some}

-- no two have one place
abbrev pub AreDistinct : (ℕ → Option ℕ) → Type 0
AreDistinct place = (p q k : ℕ) → place p ≡ Some k → place q ≡ Some k → p ≡ q
