-- lists of what has a number, as the visits or the walks that a view has
use Rattle.std.specs.Prelude.{◌≢◌, ℕ, zero, suc, ◌+◌, List, [], ◌∷◌}

module _ {A : Type 0} where
  -- a fact of each
  abbrev pub Each : (A → Type 0) → List A → Type 0
  Each P [] = Unit {0}
  Each P (x ∷ xs) = P x × Each P xs

  -- no two are of one number
  abbrev pub NoneTwice : (A → ℕ) → List A → Type 0
  NoneTwice number [] = Unit {0}
  NoneTwice number (x ∷ xs) = Each (λ y. number y ≢ number x) xs × NoneTwice number xs

  -- so many, of this number and those that follow it
  abbrev pub numbered_from : (ℕ → A) → ℕ → ℕ → List A
  numbered_from of number zero = []
  numbered_from of number (suc count) = of number ∷ numbered_from of (number + 1) count
