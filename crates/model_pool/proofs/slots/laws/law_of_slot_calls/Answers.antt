use Rattle.model_pool.proofs.cited.slots.SlotsKeep.{slots_proved, slot_there}
use Rattle.model_pool.proofs.slots.laws.law_of_slot_calls.Goals as goal

pub returns-clause-machine : goal.returns-clause-machine
returns-clause-machine g c = slots_proved

pub returns-clause-there : goal.returns-clause-there
returns-clause-there g c = slot_there
