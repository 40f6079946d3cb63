-- what a journal has, and what a crash leaves of it
use Rattle.std.specs.Prelude.{◌≡◌, ◌==◌, if◌then◌else◌, ◌⊎◌, ℕ, ◌≤◌, false, List, [], ◌++◌, length, take, Option, Some, Result, Ok, Err}
use Rattle.text_lines.specs.Lines.{whole_lines, with_ends}
use Rattle.text_player.specs.Records.{header_line}
use Rattle.service_hall.specs.HallState.{HallState}
use Rattle.service_journal.specs.DiskState.{DiskState}
use Rattle.service_journal.specs.Disks.{Changes, OnlyGrows, MayLeave, longer_by, synced_all}
use mathlib.Core.List.{IsPrefix}
use Rattle.service_journal.specs.declared.journal.Journal.{Journal}
use Rattle.service_journal.specs.WriteAheadState.{WriteAheadState}
use Rattle.service_journal.specs.WriteAheads.{record_of_hall, hall_after_first, reported_record}

-- all that was committed is written, as a record, and is durable
pub record HasSynced (c : WriteAheadState) (s : DiskState) : Type 0 where
  pub contents : s.contents ≡ reported_record c
  pub synced : s.synced ≡ length s.contents

-- what is known of the disk says that; and no call of it has failed
pub record Stands {D : Type 0} (state : D → Option DiskState) (j : Journal D) (c : WriteAheadState) : Type 0 where
  pub well : j.ended ≡ false
  pub known : (s : DiskState) → state j.disk ≡ Some s → HasSynced c s

-- the bytes up to their last LF, with it: a torn line is cut
abbrev pub without_torn : List ℕ → List ℕ
without_torn bytes = with_ends (whole_lines bytes)

-- these bytes, once their torn line is cut, are the record of the hall as it was after some of its events, at least so many
pub record LeavesHall (h : HallState) (least : ℕ) (left : List ℕ) : Type 0 where
  pub count : ℕ
  pub many : least ≤ count
  pub few : count ≤ length h.history
  pub is : without_torn left ≡ record_of_hall (hall_after_first count h)

-- from one state of the disk to another nothing was cut off, and a crash at any moment leaves the write-ahead hall's hall as it was after some of
-- its events, none skipped, with all that were committed before
pub record KeepsHandedOn (c : WriteAheadState) (s t : DiskState) : Type 0 where
  pub grows : OnlyGrows s t
  pub leaves : (left : List ℕ) → MayLeave s t left → LeavesHall c.hall c.reported left

abbrev pub KeepsAtAnyMoment : {D : Type 0} → (D → Option DiskState) → Journal D → Journal D → WriteAheadState → Type 0
KeepsAtAnyMoment state old new c = Changes (KeepsHandedOn c) (state old.disk) (state new.disk)

-- these bytes stand behind the others and are durable; where a call failed, a prefix of them stands there
abbrev pub IsWritten : {E : Type 0} → List ℕ → Result (Unit {0}) E → DiskState → DiskState → Type 0
IsWritten bytes (Ok done) s t = t ≡ synced_all (longer_by s bytes)
IsWritten bytes (Err why) s t = (part : List ℕ) × IsPrefix part bytes × (t ≡ longer_by s part)

-- the first bytes are left with what was missing behind them, all of it durable, of a disk that had so many
abbrev pub IsMended : ℕ → ℕ → List ℕ → DiskState → DiskState → Type 0
IsMended total whole missing s t = length s.contents ≡ total → (t.contents ≡ take whole s.contents ++ missing) × (t.synced ≡ length t.contents)

-- the first bytes, so many, stand there still
abbrev pub KeepsFront : ℕ → DiskState → DiskState → Type 0
KeepsFront whole s t = IsPrefix (take whole s.contents) t.contents

-- all whole lines stand there still
abbrev pub KeepsLines : DiskState → DiskState → Type 0
KeepsLines s t = IsPrefix (without_torn s.contents) t.contents

-- where the first bytes that are left are all of so many, nothing was cut off
abbrev pub GrowsFrom : ℕ → ℕ → DiskState → DiskState → Type 0
GrowsFrom total whole s t = total ≤ whole → OnlyGrows s t

-- where no line was torn, nothing was cut off
abbrev pub GrowsUnlessTorn : DiskState → DiskState → Type 0
GrowsUnlessTorn s t = without_torn s.contents ≡ s.contents → OnlyGrows s t

-- the bytes, once their torn line is cut, are the record of this hall; or they are a prefix of its header, and it has no event
abbrev pub IsHallOf : HallState → List ℕ → Type 0
IsHallOf h bytes = (without_torn bytes ≡ record_of_hall h) ⊎ (IsPrefix bytes (header_line h.config) × (h.history ≡ []))

-- what is missing of a record of which so many bytes are whole: its header, where not even that is
abbrev pub missing_in : ℕ → List ℕ → List ℕ
missing_in whole header = if whole == 0 then header else []

-- a hall has the record of another as that was after some of its events, at least so many
pub record RecordsHallAfter (h : HallState) (least : ℕ) (u : HallState) : Type 0 where
  pub count : ℕ
  pub many : least ≤ count
  pub few : count ≤ length h.history
  pub is : record_of_hall u ≡ record_of_hall (hall_after_first count h)
