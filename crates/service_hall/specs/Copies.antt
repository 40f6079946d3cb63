-- the pool and the slots that a copy holds
use Rattle.std.specs.Prelude.{ℕ, List, [], Bool}
use Rattle.model_steps.specs.RegisterState.{Registers}
use Rattle.model_pool.specs.slots.SlotsState.{SlotsState}
use Rattle.service_hall.specs.declared.slots_copy.SlotsCopy.{SlotsCopy}

abbrev pub bits_in : List Bool → Registers (Unit {0})
bits_in bits = record { first = tt; values = []; bits = bits }

abbrev pub slots_in : SlotsCopy → SlotsState ℕ
slots_in c = record {
  pool = record { most = c.most; size = c.size; bits = bits_in c.bits.items; competitors = c.competitors.items };
  values = c.values.items;
}
