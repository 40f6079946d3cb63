-- how many more may compete for numbers
use Rattle.std.specs.Prelude.{ℕ, ◌-◌, length}
use Rattle.model_pool.specs.slots.SlotsState.{SlotsState}

abbrev pub room_in : SlotsState ℕ → ℕ
room_in slots = slots.pool.size - length slots.pool.competitors
