-- the calls of a pool with their replies
use Rattle.std.specs.Prelude.{ℕ, Result}
use Rattle.model_steps.specs.declared.refusal.Refusal.{Refusal}
use Rattle.model_pool.specs.declared.probe.Probe.{Probe}

-- a call with its reply: by the identity that it names, or by the size that the pool is to have
pub data Call : Type 0 where
  Entered : ℕ → Result (Unit {0}) Refusal → Call
  Probed : ℕ → Result Probe Refusal → Call
  Sought : ℕ → Result ℕ Refusal → Call
  Left : ℕ → Result ℕ Refusal → Call
  Widened : ℕ → Result (Unit {0}) Refusal → Call
