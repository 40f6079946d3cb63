-- the levels of recursive renaming, with no memory: who has come to which instance
use Rattle.std.specs.Prelude.{◌≡◌, ℕ, ◌<◌, ◌≤◌, ◌⊎◌, true, false}
use Rattle.std.proofs.Common.{suc}
use Rattle.model_steps.specs.Count.{count_to}
use Rattle.model_recursion.specs.Spot.{Fate, Spot, has_written, was_full, went_straight, has_turned, is_in}
use Rattle.model_recursion.specs.Spot.Fate.{Straight, Turned, Named}
use Rattle.model_recursion.specs.Ranges.{IsWithin, IsTurn, IsLast}

-- a level: where each seat is
abbrev pub Level : Type 0
Level = ℕ → Spot

-- how many of the first n seats have written at the instance that begins with f
unfoldable pub size : ℕ → Level → ℕ → ℕ
size n at f = count_to (λ q. is_in f (at q)) n

-- a seat that has written at the instance that begins with f, of which this holds
pub record SomeIn (n : ℕ) (at : Level) (f : ℕ) (Holds : Fate → Type 0) : Type 0 where
  pub seat : ℕ
  pub low : seat < n
  pub inside : is_in f (at seat) ≡ true
  pub holds : Holds (at seat).fate

-- what level k + 1 keeps, of each instance by itself
pub record KeepsLocally (n k : ℕ) (at : Level) : Type 0 where
  pub low : (p : ℕ) → has_written (at p).fate ≡ true → p < n
  -- who was full read as many words as there are
  pub full : (p : ℕ) → was_full (at p).fate ≡ true → suc k ≤ size n at (at p).first
  -- not all of a full group went straight on
  pub one_stays : (f : ℕ) → suc k ≤ size n at f → SomeIn n at f (λ s. went_straight s ≡ false)
  -- not all of a group turned
  pub one_keeps : (p : ℕ) → has_turned (at p).fate ≡ true → SomeIn n at (at p).first (λ s. has_turned s ≡ false)
  -- one is named at most
  pub one_named : (p q : ℕ) → (at p).fate ≡ Named → (at q).fate ≡ Named → (at p).first ≡ (at q).first → p ≡ q

-- who has written at level k came there from level k + 1
pub record CameFrom (k : ℕ) (above below : Spot) : Type 0 where
  pub way : ((above.fate ≡ Straight) × (below.first ≡ above.first)) ⊎ ((above.fate ≡ Turned) × IsTurn k above.first below.first)

abbrev pub Follows : ℕ → Level → Level → Type 0
Follows k above below = (p : ℕ) → has_written (below p).fate ≡ true → CameFrom k (above p) (below p)

-- a name is among those of the instance that a seat has written at
pub record Covers (n : ℕ) (at : Level) (p name : ℕ) : Type 0 where
  pub here : has_written (at p).fate ≡ true
  pub within : IsWithin (at p).first (size n at (at p).first) name

-- at level x there are at most x at each instance, and no name is in the ranges of two
pub record IsSplit (n x : ℕ) (at : Level) : Type 0 where
  pub few : (f : ℕ) → size n at f ≤ x
  pub apart : (p q name : ℕ) → Covers n at p name → Covers n at q name → (at p).first ≡ (at q).first

-- of n seats and m levels: the levels above `low` keep their facts, and each follows from the one above it
pub record IsRun (n m low : ℕ) (rows : ℕ → Level) : Type 0 where
  pub locals : (k : ℕ) → low ≤ k → k < m → KeepsLocally n k (rows (suc k))
  pub chains : (k : ℕ) → low ≤ k → k < m → Follows k (rows (suc k)) (rows k)
  pub top : IsSplit n m (rows m)
  pub top_first : (p : ℕ) → has_written (rows m p).fate ≡ true → (rows m p).first ≡ 1

-- a seat has got this name at level k + 1
pub record HasName (k : ℕ) (rows : ℕ → Level) (p name : ℕ) : Type 0 where
  pub named : (rows (suc k) p).fate ≡ Named
  pub last : IsLast k (rows (suc k) p).first name
