-- the state of a hall under construction
use Rattle.std.specs.Prelude.{◌≡◌, ℕ, take, None}
use Rattle.model_asked.specs.declared.event.Event.{Event}
use Rattle.service_hall.specs.Halls.{hall_of, desk_of, hall_refusal, longer}
use Rattle.service_hall.specs.HallState.{HallState}
use Rattle.service_hall.specs.declared.rebuilding.Rebuilding.{Rebuilding}
use Rattle.service_hall.specs.declared.slots_copy.SlotsCopy.{SlotsCopy}
use Rattle.service_hall.specs.Compactions.{renaming_of}
use Rattle.service_hall.specs.Copies.{slots_in}
use Rattle.service_hall.specs.DeskParts.{slots_of, NamesAlike}

-- this is a copy of a hall's pool and slots
abbrev pub IsCopied : HallState → SlotsCopy → Type 0
IsCopied h c = slots_in c ≡ slots_of (desk_of h)

-- the hall as it was after its first n events
abbrev pub after_first : ℕ → HallState → HallState
after_first n h = hall_of h.config (take n h.history)

-- one hall has the renaming of the other: its exchanges, and so its renaming world
pub record HasRenaming (h new : HallState) : Type 0 where
  pub config : new.config ≡ h.config
  pub names : NamesAlike (desk_of new) (desk_of h)
  pub renaming : renaming_of new.history ≡ renaming_of h.history

-- an event was accepted, and the copy followed it
pub record HasTaken (old : Rebuilding) (e : Event) (new : Rebuilding) : Type 0 where
  pub accepted : hall_refusal old.hall e ≡ None
  pub hall : new.hall ≡ longer old.hall e
  pub copied : IsCopied old.hall old.slots → IsCopied new.hall new.slots

-- the hall went on by events of the pool and the slots alone
pub record GoesOn (old new : Rebuilding) : Type 0 where
  pub same : HasRenaming old.hall new.hall
  pub copied : IsCopied old.hall old.slots → IsCopied new.hall new.slots

-- the first n events of a hall are sorted. The new hall has those of renaming, and the copy of the old pool has
-- followed the others
pub record IsSorted (h : HallState) (n : ℕ) (new : Rebuilding) (old : SlotsCopy) : Type 0 where
  pub same : HasRenaming (after_first n h) new.hall
  pub copied : IsCopied new.hall new.slots
  pub followed : IsCopied (after_first n h) old

-- two halls have one desk, and the same exchanges of renaming
pub record IsOneDesk (h new : HallState) : Type 0 where
  pub desk : desk_of new ≡ desk_of h
  pub renaming : renaming_of new.history ≡ renaming_of h.history
