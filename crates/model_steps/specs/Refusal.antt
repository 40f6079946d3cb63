-- the numbers of the refusals
use Rattle.std.specs.Prelude.{ℕ}
use Rattle.model_steps.specs.declared.refusal.Refusal.{Refusal}
use Rattle.model_steps.specs.declared.refusal.Refusal.TheVariants.{ZeroIdentity, AlreadyBegun, Full, NotBegun, Finished, Spent, Crowded, NotCompeting, AlreadyCompeting, Holding, NotHolding, NoMemory, HistoryFull, OutOfRange}

-- the number that replies and records write (this project's profile)
abbrev pub refusal_number : Refusal → ℕ
refusal_number ZeroIdentity = 1
refusal_number AlreadyBegun = 2
refusal_number Full = 3
refusal_number NotBegun = 4
refusal_number Finished = 5
refusal_number Spent = 6
refusal_number Crowded = 7
refusal_number NotCompeting = 8
refusal_number AlreadyCompeting = 9
refusal_number Holding = 10
refusal_number NotHolding = 11
refusal_number NoMemory = 12
refusal_number HistoryFull = 13
refusal_number OutOfRange = 14
