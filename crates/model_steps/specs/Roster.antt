-- entries in a row, each of which has an identity
use Rattle.std.specs.Prelude.{◌≡◌, ℕ, ◌+◌, ◌<◌, List, [], ◌∷◌, length, Option, Some, None, ◌==◌, if◌then◌else◌, option_map}
use Rattle.std.proofs.Common.{set}

-- the index of the first entry of an identity
abbrev pub index_by : {X : Type 0} → (X → ℕ) → ℕ → List X → Option ℕ
index_by identity id [] = None
index_by identity id (x ∷ xs) = if identity x == id then Some 0 else option_map (λ k. k + 1) (index_by identity id xs)

-- what is seen of that entry
abbrev pub seen_by : {X Y : Type 0} → (X → ℕ) → (X → Y) → ℕ → List X → Option Y
seen_by identity seen id [] = None
seen_by identity seen id (x ∷ xs) = if identity x == id then Some (seen x) else seen_by identity seen id xs

-- the entries, with this one in place of the first of its identity
abbrev pub replaced_by : {X : Type 0} → (X → ℕ) → X → List X → List X
replaced_by identity new [] = []
replaced_by identity new (x ∷ xs) = if identity x == identity new then new ∷ xs else x ∷ replaced_by identity new xs

-- this entry, at this index, is the first of an identity: it is seen there, and another of the identity is put there
pub record StandsAt {X Y : Type 0} (identity_of : X → ℕ) (seen : X → Y) (id : ℕ) (xs : List X) (i : ℕ) (x : X) : Type 0 where
  pub inside : i < length xs
  pub is : seen_by identity_of seen id xs ≡ Some (seen x)
  pub identity : identity_of x ≡ id
  pub put : (new : X) → identity_of new ≡ id → replaced_by identity_of new xs ≡ set xs i new
