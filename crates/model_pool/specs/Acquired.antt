-- a whole stay at once: a competitor enters and probes until it gets a number (Moir and Anderson 1995; that it is one
-- call is this project's profile)
use Rattle.std.specs.Prelude.{◌≡◌, ℕ, zero, suc, ◌+◌, List, [], ◌∷◌, ◌++◌, replicate, Result, Ok, Err, Bool, false, not}
use Rattle.model_steps.specs.declared.access.Answer.{Answer}
use Rattle.model_steps.specs.declared.access.Answer.TheVariants.{Value, WasSet, Done}
use Rattle.model_steps.specs.declared.refusal.Refusal.{Refusal}
use Rattle.model_steps.specs.RegisterState.{Registers}
use Rattle.model_steps.specs.Registers.{answer_of, after_access}
use Rattle.model_steps.specs.Runs.{Run}
use Rattle.model_pool.specs.declared.probe.Probe.TheVariants.{Missed, Got}
use Rattle.model_pool.specs.declared.stay.Stay.TheVariants.{Seeking, Settled}
use Rattle.model_pool.specs.Stay.{probe_access, stay_probed}
use Rattle.model_pool.specs.PoolState.{PoolState}
use Rattle.model_pool.specs.Calls.{Call}
use Rattle.model_pool.specs.Calls.Call.{Entered, Probed}
use Rattle.model_pool.specs.Machine.{next, IsReply, pool}
use Rattle.model_steps.specs.Machine.{Reaches, OnEveryHistory, Extends}

-- the probes of a competitor that misses this often and then gets a number
abbrev pub probe_calls : ℕ → ℕ → ℕ → List Call
probe_calls p misses n = replicate misses (Probed p (Ok Missed)) ++ Probed p (Ok (Got n)) ∷ []

-- by such probes, each with the reply that it gets, p gets n, and one pool becomes the other
pub record IsSought (old : PoolState) (p n : ℕ) (new : PoolState) : Type 0 where
  pub misses : ℕ
  pub run : Run next IsReply old (probe_calls p misses n) new

-- every list of calls that leads to the old pool leads to the new one with such probes; where they are refused, with a
-- `probe` that is
abbrev pub LeadsByProbes : ℕ → PoolState → PoolState → Result ℕ Refusal → Type 0
LeadsByProbes p old new (Ok n) = OnEveryHistory pool (λ start r. (misses : ℕ) × Reaches pool start new (r ++ probe_calls p misses n)) old
LeadsByProbes p old new (Err why) = Extends pool old new (Probed p (Err why))

-- the calls of a competitor that enters, misses this often and then gets a number
abbrev pub stay_calls : ℕ → ℕ → ℕ → List Call
stay_calls p misses n = Entered p (Ok tt) ∷ probe_calls p misses n

-- by such calls, each with the reply that it gets, p gets n, and one pool becomes the other
pub record IsAcquired (old : PoolState) (p n : ℕ) (new : PoolState) : Type 0 where
  pub misses : ℕ
  pub run : Run next IsReply old (stay_calls p misses n) new

-- every list of calls that leads to the old pool leads to the new one with the calls of a stay; where that is refused,
-- with an `enter` that is
abbrev pub LeadsByStay : ℕ → PoolState → PoolState → Result ℕ Refusal → Type 0
LeadsByStay p old new (Ok n) = OnEveryHistory pool (λ size r. (misses : ℕ) × Reaches pool size new (r ++ stay_calls p misses n)) old
LeadsByStay p old new (Err why) = Extends pool old new (Entered p (Err why))

-- a bit that was tested and set was clear
abbrev pub was_clear : Answer (Unit {0}) → Bool
was_clear (Value v) = false
was_clear (WasSet was) = not was
was_clear Done = false

-- probes from this bit on miss so often and then get n, and some bits become others
abbrev pub GetsAfter : ℕ → ℕ → ℕ → Registers (Unit {0}) → ℕ → Registers (Unit {0}) → Type 0
GetsAfter zero size bit old n new =
    (stay_probed size (Seeking bit) (answer_of old (probe_access size (Seeking bit))) ≡ Settled n)
    × (new ≡ after_access old (probe_access size (Seeking bit)))
GetsAfter (suc misses) size bit old n new =
    (stay_probed size (Seeking bit) (answer_of old (probe_access size (Seeking bit))) ≡ Seeking (bit + 1))
    × GetsAfter misses size (bit + 1) (after_access old (probe_access size (Seeking bit))) n new

-- probes from this bit on get n, and some bits become others
pub record Gets (size bit : ℕ) (old : Registers (Unit {0})) (n : ℕ) (new : Registers (Unit {0})) : Type 0 where
  pub misses : ℕ
  pub after : GetsAfter misses size bit old n new
