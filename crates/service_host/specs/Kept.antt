-- what a journal has kept of a turn of the loop
use Rattle.std.specs.Prelude.{◌≡◌, ◌⊎◌, Option, length}
use Rattle.service_journal.specs.DiskState.{DiskState}
use Rattle.service_hall.specs.HallState.{HallState}
use Rattle.service_hall.specs.Compactions.{IsCompacted}
use Rattle.service_journal.specs.declared.journal.Journal.{Journal}
use Rattle.service_journal.specs.WriteAheadState.{WriteAheadState}
use Rattle.service_journal.specs.WriteAheads.{write_ahead_of}
use Rattle.service_journal.specs.Compactings.{KeepsWhenCompacted, MayCompact}
use Rattle.service_journal.specs.Journals.{Stands, KeepsAtAnyMoment}
use Rattle.service_host.specs.declared.persisters.Recorded.{Recorded}
use Rattle.service_host.specs.declared.reading.Reading.{Reading}

-- a hall is as it was, or compacted
abbrev pub MayCompactHall : HallState → HallState → Type 0
MayCompactHall h u = (u ≡ h) ⊎ IsCompacted h u

-- a persister that learns no answers leaves itself and what it keeps as they were
abbrev pub Rests : {K T : Type 0} → K → T → K → T → Type 0
Rests k w l u = (l ≡ k) × (u ≡ w)

-- a write-ahead hall of which all events were committed
abbrev pub all_reported : WriteAheadState → WriteAheadState
all_reported c = write_ahead_of c.hall (length c.hall.history)

-- All events of the write-ahead hall are committed: where header and journal stood as the record of what was committed, and were synced, they do
-- so then with these events, and a crash at any moment in between leaves all that was committed before. Then its hall may be compacted, and
-- the journal is the record of that
pub record IsKept {D : Type 0} (state : D → Option DiskState) (j : Journal D) (c : WriteAheadState) (j' : Journal D) (u : WriteAheadState) : Type 0 where
  pub committed : Journal D
  pub stands : Stands state j c → Stands state committed (all_reported c)
  pub any_moment : Stands state j c → KeepsAtAnyMoment state j committed c
  pub compacted : MayCompact (all_reported c) u
  pub stands_then : Stands state committed (all_reported c) → Stands state j' u
  pub any_moment_then : Stands state committed (all_reported c) → KeepsWhenCompacted state committed j' (all_reported c)

-- so a persister with a journal keeps it
abbrev pub KeptBy : {D : Type 0} → (D → Option DiskState) → Recorded D → Reading WriteAheadState → Recorded D → Reading WriteAheadState → Type 0
KeptBy state k c l u = IsKept state k.journal c.service l.journal u.service × (u.rules ≡ c.rules)
