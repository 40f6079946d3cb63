-- for how long a store that does not answer is waited for
use Rattle.std.specs.Prelude.{◌⊎◌, ◌≤◌, ℕ, zero, suc}

-- it was waited so many times, one after another, up to now
abbrev pub HasWaited : {T : Type 0} → (T → T → Type 0) → ℕ → T → Type 0
HasWaited waited zero now = Unit {0}
HasWaited {T = T} waited (suc n) now = (before : T) × HasWaited waited n before × waited before now

-- patience has ended, or it was waited a million times
abbrev pub IsSpent : {T : Type 0} → (T → Type 0) → (T → T → Type 0) → T → Type 0
IsSpent is_over waited now = is_over now ⊎ ((times : ℕ) × (1000000 ≤ times) × HasWaited waited times now)
