-- what the calls of a pool answer and leave
use Rattle.std.specs.Prelude.{ℕ, ◌+◌, [], ◌∷◌, ◌++◌, length, replicate, false, Option, Some, None, Result, Ok, Err, ◌==◌, nat_le, if◌then◌else◌, is_some}
use Rattle.model_steps.specs.declared.access.Answer.{Answer}
use Rattle.model_steps.specs.declared.refusal.Refusal.{Refusal}
use Rattle.model_steps.specs.declared.refusal.Refusal.TheVariants.{ZeroIdentity, Crowded, NotCompeting, AlreadyCompeting, Holding, NotHolding}
use Rattle.model_steps.specs.RegisterState.{Registers}
use Rattle.model_steps.specs.Registers.{answer_of, after_access}
use Rattle.model_steps.specs.World.{done_unless}
use Rattle.model_pool.specs.declared.probe.Probe.{Probe}
use Rattle.model_pool.specs.declared.stay.Stay.{Stay}
use Rattle.model_pool.specs.declared.stay.Stay.TheVariants.{Seeking, Settled}
use Rattle.model_pool.specs.Stay.{probe_access, stay_probed, probe_reply, leave_access}
use Rattle.model_pool.specs.Competitors.{stay_of, with_stay, without}
use Rattle.model_pool.specs.PoolState.{PoolStart, PoolState}
use Rattle.model_pool.specs.Widening.{widen_refusal, widen_access}

-- the bits of so many numbers, all clear; register 0 is no number's
abbrev pub clear_bits : ℕ → Registers (Unit {0})
clear_bits most = record { first = tt; values = replicate 0 tt; bits = replicate (most + 1) false }

-- a pool of this size in which no one competes
abbrev pub fresh_pool : PoolStart → PoolState
fresh_pool start = record { most = start.most; size = start.size; bits = clear_bits start.most; competitors = [] }

-- why `enter` is refused: the first of these that holds
abbrev pub enter_refusal : PoolState → ℕ → Option Refusal
enter_refusal w id =
    if id == 0 then Some ZeroIdentity
    else if is_some (stay_of id w.competitors) then Some AlreadyCompeting
    else if nat_le w.size (length w.competitors) then Some Crowded
    else None

-- what `enter` answers
abbrev pub enter_answer : PoolState → ℕ → Result (Unit {0}) Refusal
enter_answer w id = done_unless (enter_refusal w id)

abbrev pub entered_unless : Option Refusal → PoolState → ℕ → PoolState
entered_unless None w id = record w { competitors = w.competitors ++ record { identity = id; stay = Seeking 1 } ∷ [] }
entered_unless (Some refusal) w id = w

-- the pool after `enter`
abbrev pub after_enter : PoolState → ℕ → PoolState
after_enter w id = entered_unless (enter_refusal w id) w id

-- what the bits answer to a probe of a competitor
abbrev pub got_by : PoolState → Stay → Answer (Unit {0})
got_by w stay = answer_of w.bits (probe_access w.size stay)

abbrev pub probe_answer_by : PoolState → Option Stay → Result Probe Refusal
probe_answer_by w None = Err NotCompeting
probe_answer_by w (Some (Seeking next)) = Ok (probe_reply (stay_probed w.size (Seeking next) (got_by w (Seeking next))))
probe_answer_by w (Some (Settled number)) = Err Holding

-- what `probe` answers
abbrev pub probe_answer : PoolState → ℕ → Result Probe Refusal
probe_answer w id = probe_answer_by w (stay_of id w.competitors)

-- why `probe` is refused
abbrev pub probe_refusal_by : Option Stay → Option Refusal
probe_refusal_by None = Some NotCompeting
probe_refusal_by (Some (Seeking next)) = None
probe_refusal_by (Some (Settled number)) = Some Holding

abbrev pub probe_refusal : PoolState → ℕ → Option Refusal
probe_refusal w id = probe_refusal_by (stay_of id w.competitors)

abbrev pub after_probe_by : PoolState → ℕ → Option Stay → PoolState
after_probe_by w id None = w
after_probe_by w id (Some (Seeking next)) = record {
  most = w.most;
  size = w.size;
  bits = after_access w.bits (probe_access w.size (Seeking next));
  competitors = with_stay id (stay_probed w.size (Seeking next) (got_by w (Seeking next))) w.competitors;
}
after_probe_by w id (Some (Settled number)) = w

-- the pool after `probe`
abbrev pub after_probe : PoolState → ℕ → PoolState
after_probe w id = after_probe_by w id (stay_of id w.competitors)

abbrev pub number_by : Option Stay → Result ℕ Refusal
number_by None = Err NotCompeting
number_by (Some (Seeking next)) = Err NotHolding
number_by (Some (Settled number)) = Ok number

-- the number that an identity holds, or why it holds none: what `leave` answers
abbrev pub number_answer : PoolState → ℕ → Result ℕ Refusal
number_answer w id = number_by (stay_of id w.competitors)

abbrev pub after_leave_by : PoolState → ℕ → Option Stay → PoolState
after_leave_by w id None = w
after_leave_by w id (Some (Seeking next)) = w
after_leave_by w id (Some (Settled number)) = record {
  most = w.most;
  size = w.size;
  bits = after_access w.bits (leave_access w.size (Settled number));
  competitors = without id w.competitors;
}

-- the pool after `leave`
abbrev pub after_leave : PoolState → ℕ → PoolState
after_leave w id = after_leave_by w id (stay_of id w.competitors)

-- what `widen` answers
abbrev pub widen_answer : PoolState → ℕ → Result (Unit {0}) Refusal
widen_answer w more = done_unless (widen_refusal w.most w.size more)

abbrev pub widened_unless : Option Refusal → PoolState → ℕ → PoolState
widened_unless None w more = record { most = w.most; size = more; bits = after_access w.bits (widen_access w); competitors = w.competitors }
widened_unless (Some refusal) w more = w

-- the pool after `widen`
abbrev pub after_widen : PoolState → ℕ → PoolState
after_widen w more = widened_unless (widen_refusal w.most w.size more) w more
