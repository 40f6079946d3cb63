-- what the calls of slots answer and leave
use Rattle.std.specs.Prelude.{◌≡◌, ◌≢◌, ℕ, ◌-◌, ◌≤◌, ◌<◌, List, ◌++◌, length, replicate, Option, Some, Result, Ok, Err, slice_get, slice_set}
use Rattle.std.specs.Result.{IsOkAnd}
use Rattle.model_steps.specs.declared.refusal.Refusal.{Refusal}
use Rattle.model_pool.specs.Pool.{number_answer, widen_answer, after_widen}
use Rattle.model_pool.specs.slots.SlotsState.{SlotsState}

-- the value in the slot of a number
abbrev pub slot : {T : Type 0} → ℕ → List T → Option T
slot number values = slice_get values (number - 1)

-- the reply of `put` to an identity that holds this number, or holds none for this reason
abbrev pub stored_reply : Result ℕ Refusal → Result (Unit {0}) Refusal
stored_reply (Ok number) = Ok tt
stored_reply (Err refusal) = Err refusal

-- the values after `put` by an identity that holds this number, or none
abbrev pub stored_in : {T : Type 0} → Result ℕ Refusal → T → List T → List T
stored_in (Ok number) value values = slice_set values (number - 1) value
stored_in (Err refusal) value values = values

-- the reply of `get` to an identity that holds this number, or holds none for this reason
abbrev pub IsFetched : {T : Type 0} → List T → Result ℕ Refusal → Result T Refusal → Type 0
IsFetched values (Ok number) reply = IsOkAnd reply (λ value. slot number values ≡ Some value)
IsFetched values (Err refusal) reply = reply ≡ Err refusal

-- the slots after `put`
abbrev pub after_put : {T : Type 0} → SlotsState T → ℕ → T → SlotsState T
after_put s id value = record s { values = stored_in (number_answer s.pool id) value s.values }

-- `put` by the holder of a number changes its slot and no other, and nothing of the pool
pub record ChangesOwnSlot {T : Type 0} (id : ℕ) (value : T) (old new : SlotsState T) : Type 0 where
  pub own : (number : ℕ) → number_answer old.pool id ≡ Ok number → slot number new.values ≡ Some value
  pub others : (number : ℕ) → 1 ≤ number → number_answer old.pool id ≢ Ok number → slot number new.values ≡ slot number old.values
  pub pool : new.pool ≡ old.pool

-- the values after a `widen` with this reply: each new slot holds this value
abbrev pub extended_in : {T : Type 0} → Result (Unit {0}) Refusal → ℕ → T → List T → List T
extended_in (Ok done) more value values = values ++ replicate (more - length values) value
extended_in (Err refusal) more value values = values

-- the slots after `widen`
abbrev pub after_extend : {T : Type 0} → SlotsState T → ℕ → T → SlotsState T
after_extend s more value = record { pool = after_widen s.pool more; values = extended_in (widen_answer s.pool more) more value s.values }

-- `widen` to this many numbers fills the new slots with this value, and leaves the others as they are
pub record FillsNewSlots {T : Type 0} (more : ℕ) (value : T) (old new : SlotsState T) : Type 0 where
  pub kept : (number : ℕ) → 1 ≤ number → number ≤ old.pool.size → slot number new.values ≡ slot number old.values
  pub filled : (number : ℕ) → old.pool.size < number → number ≤ more → slot number new.values ≡ Some value
