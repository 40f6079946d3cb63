-- the steps of a competitor, as functions of its own state, of the size of the pool and of what an access answers
use Rattle.std.specs.Prelude.{ℕ, ◌+◌, ◌≤◌, Option, Some, None, nat_lt, if◌then◌else◌, true, false}
use Rattle.model_steps.specs.declared.access.Access.{Access}
use Rattle.model_steps.specs.declared.access.Access.TheVariants.{TestAndSet, Clear, Nothing}
use Rattle.model_steps.specs.declared.access.Answer.{Answer}
use Rattle.model_steps.specs.declared.access.Answer.TheVariants.{Value, WasSet, Done}
use Rattle.model_pool.specs.declared.probe.Probe.{Probe}
use Rattle.model_pool.specs.declared.probe.Probe.TheVariants.{Missed, Got}
use Rattle.model_pool.specs.declared.stay.Stay.{Stay}
use Rattle.model_pool.specs.declared.stay.Stay.TheVariants.{Seeking, Settled}

-- the access of the next probe: bit n is of number n, and the last number has none (Moir and Anderson 1995)
abbrev pub probe_access : ℕ → Stay → Access ℕ (Unit {0})
probe_access size (Seeking next) = if nat_lt next size then TestAndSet next else Nothing
probe_access size (Settled number) = Nothing

-- a probe whose bit was set goes on to the next bit; past the last bit the last number is left
abbrev pub stay_found : ℕ → ℕ → Answer (Unit {0}) → Stay
stay_found size next (Value v) = Settled size
stay_found size next (WasSet true) = if nat_lt (next + 1) size then Seeking (next + 1) else Settled size
stay_found size next (WasSet false) = Settled next
stay_found size next Done = Settled size

-- the state after the next probe
abbrev pub stay_probed : ℕ → Stay → Answer (Unit {0}) → Stay
stay_probed size (Seeking next) got = stay_found size next got
stay_probed size (Settled number) got = Settled number

-- what a probe answers that left this state
abbrev pub probe_reply : Stay → Probe
probe_reply (Seeking next) = Missed
probe_reply (Settled number) = Got number

-- the access of leaving
abbrev pub leave_access : ℕ → Stay → Access ℕ (Unit {0})
leave_access size (Seeking next) = Nothing
leave_access size (Settled number) = if nat_lt number size then Clear number else Nothing

-- the number that is held
abbrev pub held_at : Stay → Option ℕ
held_at (Seeking next) = None
held_at (Settled number) = Some number

-- numbers begin at 1, and one that is held is within the pool
abbrev pub IsWithin : ℕ → Stay → Type 0
IsWithin size (Seeking next) = 1 ≤ next
IsWithin size (Settled number) = (1 ≤ number) × (number ≤ size)
