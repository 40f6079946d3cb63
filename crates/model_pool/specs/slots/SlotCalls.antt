-- the calls of slots with their replies
use Rattle.std.specs.Prelude.{ℕ, List, [], ◌∷◌, Result}
use Rattle.model_steps.specs.declared.refusal.Refusal.{Refusal}
use Rattle.model_pool.specs.Calls.{Call}
use Rattle.model_pool.specs.Calls.Call.{Entered, Probed, Sought, Left, Widened}

-- a call of the pool alone; a value that an identity put or got; or a widening of the pool, with the value of each new
-- slot
pub data SlotCall (T : Type 0) : Type 0 where
  Pooled : Call → SlotCall T
  Stored : ℕ → T → Result (Unit {0}) Refusal → SlotCall T
  Fetched : ℕ → Result T Refusal → SlotCall T
  Extended : ℕ → T → Result (Unit {0}) Refusal → SlotCall T

-- the pool's part of a list of calls
abbrev pub pool_calls : {T : Type 0} → List (SlotCall T) → List Call
pool_calls [] = []
pool_calls (Pooled h ∷ r) = h ∷ pool_calls r
pool_calls (Stored p v reply ∷ r) = pool_calls r
pool_calls (Fetched p reply ∷ r) = pool_calls r
pool_calls (Extended more v reply ∷ r) = Widened more reply ∷ pool_calls r

-- so of a call of the pool alone. A widening is no such call, since new slots need a value
abbrev pub OfPoolAlone : (Call → Type 0) → Call → Type 0
OfPoolAlone P (Entered p reply) = P (Entered p reply)
OfPoolAlone P (Probed p reply) = P (Probed p reply)
OfPoolAlone P (Sought p reply) = P (Sought p reply)
OfPoolAlone P (Left p reply) = P (Left p reply)
OfPoolAlone P (Widened more reply) = ⊥
