-- what is kept of the pool and the slots
use Rattle.std.specs.Prelude.{◌≡◌, ℕ, ◌-◌, ◌<◌, ◌≤◌, max, length, Option, Some, None, Ok, is_some, option_and_then}
use Rattle.model_steps.specs.Participant.{AreDistinct, identities, program_of}
use Rattle.model_pool.specs.Calls.Call.{Probed, Left}
use Rattle.model_pool.specs.PoolObject.{competes}
use Rattle.model_pool.specs.declared.probe.Probe.TheVariants as probe
use Rattle.model_pool.specs.slots.SlotCalls.SlotCall.{Pooled, Stored, Extended}
use Rattle.model_pool.specs.slots.SlotsObject.{SlotsObject, slots_after}
use Rattle.text_checker.specs.declared.judges.stays.Stay.{Stay}
use Rattle.text_checker.specs.declared.judges.stays.Stays.{Stays}

abbrev pub held_by : Option Stay → Option ℕ
held_by stay = option_and_then (λ s. s.held) stay

-- the last number of a probe that is missed by nobody who is let in
abbrev pub last_probe : ℕ → ℕ
last_probe size = max 1 (size - 1)

-- what is kept is of this pool and these slots
pub record HoldsSlots (s : Stays) (o : SlotsObject ℕ) : Type 0 where
  pub most_is : s.most ≡ o.pool.most
  pub size_is : s.size ≡ o.pool.size
  pub low : 1 ≤ o.pool.size
  pub high : o.pool.size ≤ o.pool.most
  pub bound : o.pool.most ≤ 65536
  pub competing : o.pool.competing ≡ identities s.competitors
  pub competes : (q : ℕ) → competes o.pool q ≡ is_some (program_of q s.competitors)
  pub crowd : length o.pool.competing ≡ length s.competitors
  pub held : (q : ℕ) → o.pool.held q ≡ held_by (program_of q s.competitors)
  pub probes : (q : ℕ) (stay : Stay) → program_of q s.competitors ≡ Some stay → o.pool.probes q ≡ stay.probes
  pub few : (q : ℕ) (stay : Stay) → program_of q s.competitors ≡ Some stay → stay.held ≡ None → stay.probes < last_probe o.pool.size
  pub in_range : (q : ℕ) (stay : Stay) (n : ℕ) → program_of q s.competitors ≡ Some stay → stay.held ≡ Some n → (1 ≤ n) × (n ≤ o.pool.size)
  pub apart : AreDistinct s.competitors
  pub values : o.values ≡ s.values.items
  pub many : length o.values ≡ o.pool.size

-- this holds of any pool and slots that what is kept is of
abbrev pub OfSlots : Stays → (SlotsObject ℕ → Type 0) → Type 0
OfSlots s P = (o : SlotsObject ℕ) → HoldsSlots s o → P o

-- the pool and the slots after an identity has missed a bit, got a number, left one, or stored a value, and after a widening
abbrev pub missed_by : ℕ → SlotsObject ℕ → SlotsObject ℕ
missed_by id o = slots_after o (Pooled (Probed id (Ok probe.Missed)))

abbrev pub got_by : ℕ → ℕ → SlotsObject ℕ → SlotsObject ℕ
got_by id number o = slots_after o (Pooled (Probed id (Ok (probe.Got number))))

abbrev pub left_by : ℕ → ℕ → SlotsObject ℕ → SlotsObject ℕ
left_by id number o = slots_after o (Pooled (Left id (Ok number)))

abbrev pub stored_by : ℕ → ℕ → SlotsObject ℕ → SlotsObject ℕ
stored_by id value o = slots_after o (Stored id value (Ok tt))

abbrev pub widened_to : ℕ → SlotsObject ℕ → SlotsObject ℕ
widened_to more o = slots_after o (Extended more 0 (Ok tt))
