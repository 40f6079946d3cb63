-- the two parts of a desk, which do not depend on each other
use Rattle.std.specs.Prelude.{◌≡◌, ℕ, Bool, true, false}
use Rattle.model_asked.specs.declared.event.Event.{Event}
use Rattle.model_asked.specs.declared.event.Event.TheVariants.{Begin, Step}
use Rattle.model_pool.specs.slots.SlotsState.{SlotsState}
use Rattle.text_worlds.specs.desk.DeskValue.{DeskValue}
use Rattle.text_worlds.specs.desk.DeskValue.DeskValue.{OverGrid, OverTree}

-- whether an event is of renaming, and not of the pool or the slots
abbrev pub is_renaming : Event → Bool
is_renaming (Begin p) = true
is_renaming (Step p) = true
is_renaming e = false

-- the pool and the slots
abbrev pub slots_of : DeskValue → SlotsState ℕ
slots_of (OverGrid w) = w.slots
slots_of (OverTree w) = w.slots

-- two desks have one renaming world
abbrev pub NamesAlike : DeskValue → DeskValue → Type 0
NamesAlike (OverGrid w) (OverGrid u) = w.names ≡ u.names
NamesAlike (OverTree w) (OverTree u) = w.names ≡ u.names
NamesAlike (OverGrid w) (OverTree u) = ⊥
NamesAlike (OverTree w) (OverGrid u) = ⊥
