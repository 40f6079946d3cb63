-- Places that are written once: what stands where, before and after a call.
use Rattle.std.specs.Prelude.{◌≡◌, ◌<◌, ◌≤◌, ℕ, List, Some, slice_get, ◌⊎◌}

-- what stands at the places of a log, which is its entries in order
abbrev pub stands_in : List (List ℕ) → ℕ → List ℕ → Type 0
stands_in log place entry = slice_get log place ≡ Some entry

-- something stands at a place
abbrev pub IsTaken : (ℕ → List ℕ → Type 0) → ℕ → Type 0
IsTaken stands place = (entry : List ℕ) × stands place entry

-- something stands at each place below this one
abbrev pub IsDecidedBelow : (ℕ → List ℕ → Type 0) → ℕ → Type 0
IsDecidedBelow stands below = (place : ℕ) → place < below → IsTaken stands place

-- a store tells of one place both that something stands there and that nothing does
abbrev pub Contradicts : {S : Type 0} → (S → ℕ → List ℕ → Type 0) → (S → ℕ → Type 0) → Type 0
Contradicts {S = S} stands lacks = (s : S) × (place : ℕ) × IsTaken (stands s) place × lacks s place

-- all that stood stands
abbrev pub Keeps : (ℕ → List ℕ → Type 0) → (ℕ → List ℕ → Type 0) → Type 0
Keeps before after = (place : ℕ) (entry : List ℕ) → before place entry → after place entry

-- the same stands at each place
pub record Same (before after : ℕ → List ℕ → Type 0) : Type 0 where
  pub keeps : (place : ℕ) (entry : List ℕ) → before place entry → after place entry
  pub only : (place : ℕ) (entry : List ℕ) → after place entry → before place entry

-- all that stood stands, and beside it at most this entry at this place
pub record Adds (before : ℕ → List ℕ → Type 0) (at : ℕ) (written : List ℕ) (after : ℕ → List ℕ → Type 0) : Type 0 where
  pub keeps : (place : ℕ) (entry : List ℕ) → before place entry → after place entry
  pub only : (place : ℕ) (entry : List ℕ) → after place entry → before place entry ⊎ ((place ≡ at) × (entry ≡ written))

-- the same, at a place from this one on
pub record AddsFrom (before : ℕ → List ℕ → Type 0) (place : ℕ) (written : List ℕ) (after : ℕ → List ℕ → Type 0) : Type 0 where
  pub at : ℕ
  pub from : place ≤ at
  pub adds : Adds before at written after

-- an entry came to stand at the first place from one on at which nothing stood
pub record Lands (before after : ℕ → List ℕ → Type 0) (lacked : ℕ → Type 0) (place : ℕ) (written : List ℕ) (at : ℕ) : Type 0 where
  pub from : place ≤ at
  pub free : lacked at
  pub passed : (between : ℕ) → place ≤ between → between < at → IsTaken after between
  pub stood : after at written
  pub adds : Adds before at written after
