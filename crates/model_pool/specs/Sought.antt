-- a competitor probes until it gets a number: one call for these probes (Moir and Anderson 1995; that it is one call is this
-- project's profile)
use Rattle.std.specs.Prelude.{ℕ, zero, suc, Option, Some, None, Result, Ok, Err}
use Rattle.model_steps.specs.declared.refusal.Refusal.{Refusal}
use Rattle.model_steps.specs.declared.refusal.Refusal.TheVariants.{NotCompeting, Holding}
use Rattle.model_steps.specs.RegisterState.{Registers}
use Rattle.model_steps.specs.Registers.{answer_of, after_access}
use Rattle.model_pool.specs.declared.stay.Stay.{Stay}
use Rattle.model_pool.specs.declared.stay.Stay.TheVariants.{Seeking, Settled}
use Rattle.model_pool.specs.Competitors.{stay_of, with_stay}
use Rattle.model_pool.specs.PoolState.{PoolState}
use Rattle.model_pool.specs.Stay.{probe_access, stay_probed}

-- the number that at most so many probes give to a competitor that stands so, and the bits after them
abbrev pub sought_on : ℕ → ℕ → Stay → Registers (Unit {0}) → ℕ × Registers (Unit {0})
sought_on probes size (Settled number) bits = (number, bits)
sought_on zero size (Seeking next) bits = (size, bits)
sought_on (suc probes) size (Seeking next) bits =
    sought_on probes size (stay_probed size (Seeking next) (answer_of bits (probe_access size (Seeking next)))) (after_access bits (probe_access size (Seeking next)))

abbrev pub seek_answer_by : PoolState → Option Stay → Result ℕ Refusal
seek_answer_by w None = Err NotCompeting
seek_answer_by w (Some (Seeking next)) = Ok (sought_on w.size w.size (Seeking next) w.bits).0
seek_answer_by w (Some (Settled number)) = Err Holding

-- what `seek` answers
abbrev pub seek_answer : PoolState → ℕ → Result ℕ Refusal
seek_answer w id = seek_answer_by w (stay_of id w.competitors)

abbrev pub after_seek_by : PoolState → ℕ → Option Stay → PoolState
after_seek_by w id None = w
after_seek_by w id (Some (Seeking next)) = record {
  most = w.most;
  size = w.size;
  bits = (sought_on w.size w.size (Seeking next) w.bits).1;
  competitors = with_stay id (Settled (sought_on w.size w.size (Seeking next) w.bits).0) w.competitors;
}
after_seek_by w id (Some (Settled number)) = w

-- the pool after `seek`
abbrev pub after_seek : PoolState → ℕ → PoolState
after_seek w id = after_seek_by w id (stay_of id w.competitors)
