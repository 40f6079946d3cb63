-- a pool that gets more numbers, also while some are held (this project's profile)
use Rattle.std.specs.Prelude.{ℕ, Option, Some, None, nat_lt, nat_le, if◌then◌else◌, is_some}
use Rattle.model_steps.specs.declared.access.Access.{Access}
use Rattle.model_steps.specs.declared.access.Access.TheVariants.{TestAndSet, Nothing}
use Rattle.model_steps.specs.declared.refusal.Refusal.{Refusal}
use Rattle.model_steps.specs.declared.refusal.Refusal.TheVariants.{OutOfRange}
use Rattle.model_pool.specs.Competitors.{holder_in}
use Rattle.model_pool.specs.PoolState.{PoolState}

-- why a pool of this size does not get this many numbers: it has as many, or they are more than it may get
abbrev pub widen_refusal : ℕ → ℕ → ℕ → Option Refusal
widen_refusal most size more = if nat_le more size then Some OutOfRange else if nat_lt most more then Some OutOfRange else None

-- the access of widening, which is no competitor's: what was the last number had no bit, and gets one that is set where
-- the number is held
abbrev pub widen_access : PoolState → Access ℕ (Unit {0})
widen_access w = if is_some (holder_in w.size w.competitors) then TestAndSet w.size else Nothing
