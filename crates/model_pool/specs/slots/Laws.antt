-- the statements of this crate's laws, each under a name
use Rattle.std.specs.Prelude.{◌≡◌, ℕ, Ok, Some}
use Rattle.model_steps.specs.Machine.{OnEveryHistory}
use Rattle.model_pool.specs.Pool.{number_answer}
use Rattle.model_pool.specs.slots.Machine.{slots}
use Rattle.model_pool.specs.slots.Slots.{slot}
use Rattle.model_pool.specs.slots.SlotsState.{SlotsState}

-- after every list of calls a number that is held has a slot
abbrev pub HasSlot : (T : Type 0) → Type 0
HasSlot T = (s : SlotsState T) (id n : ℕ) → number_answer s.pool id ≡ Ok n → OnEveryHistory slots (λ first r. (v : T) × (slot n s.values ≡ Some v)) s
