-- lists of pairs of an identity and its value, by rising identity
use Rattle.std.specs.Prelude.{ℕ, ◌<◌, ◌==◌, nat_lt, if◌then◌else◌, List, [], ◌∷◌, Option, Some, None}

-- every pair is above this identity, where the pairs rise
abbrev pub IsAbove : ℕ → List (ℕ × ℕ) → Type 0
IsAbove n [] = Unit {0}
IsAbove n (p ∷ ps) = n < p.0

-- the identities rise strictly
abbrev pub IsRising : List (ℕ × ℕ) → Type 0
IsRising [] = Unit {0}
IsRising (p ∷ ps) = IsAbove p.0 ps × IsRising ps

-- the value of an identity
abbrev pub value_of : ℕ → List (ℕ × ℕ) → Option ℕ
value_of id [] = None
value_of id (p ∷ ps) = if p.0 == id then Some p.1 else value_of id ps

-- the pairs with this one in its order, in place of the one of its identity
abbrev pub inserted : List (ℕ × ℕ) → ℕ × ℕ → List (ℕ × ℕ)
inserted [] new = new ∷ []
inserted (p ∷ ps) new =
    if nat_lt new.0 p.0 then new ∷ p ∷ ps
    else if p.0 == new.0 then new ∷ ps
    else p ∷ inserted ps new
