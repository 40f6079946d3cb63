-- a journal whose write-ahead hall's hall is compacted, and what a crash leaves then
use Rattle.std.specs.Prelude.{◌≡◌, ◌⊎◌, ◌<◌, ◌≤◌, ℕ, List, length, Bool, true, false, Option}
use Rattle.service_hall.specs.HallState.{HallState}
use Rattle.service_hall.specs.declared.compactor.Compactor.{Compactor}
use Rattle.service_hall.specs.Compactions.{IsCompacted}
use Rattle.service_hall.specs.Dues.{due_after, due_again}
use Rattle.service_journal.specs.DiskState.{DiskState}
use Rattle.service_journal.specs.Disks.{Changes, MayLeaveEither, replaced_by}
use Rattle.service_journal.specs.WriteAheadState.{WriteAheadState}
use Rattle.service_journal.specs.declared.journal.Journal.{Journal}
use Rattle.service_journal.specs.WriteAheads.{record_of_hall, write_ahead_of}
use Rattle.service_journal.specs.Journals.{LeavesHall}

-- these bytes, once their torn line is cut, are the record of the write-ahead hall's hall as it was after some of its events, with all that were
-- committed; or the whole record of the hall that is to take its place
abbrev pub LeavesEither : WriteAheadState → HallState → List ℕ → Type 0
LeavesEither c new left = LeavesHall c.hall c.reported left ⊎ LeavesHall new (length new.history) left

-- the disk is as it was, or has the record of the other hall and nothing else; and a crash at any moment between leaves one of the two
pub record KeepsEither (c : WriteAheadState) (new : HallState) (s t : DiskState) : Type 0 where
  pub is : (t ≡ s) ⊎ (t ≡ replaced_by s (record_of_hall new))
  pub leaves : (left : List ℕ) → MayLeaveEither s (record_of_hall new) left → LeavesEither c new left

-- the other hall is the write-ahead hall's, and all of it was committed; or nothing changed
abbrev pub TakesHall : Bool → HallState → WriteAheadState → WriteAheadState → Type 0
TakesHall true new c u = u ≡ write_ahead_of new (length new.history)
TakesHall false new c u = u ≡ c

-- the write-ahead hall's hall was compacted, and all of it was committed
pub record HasCompacted (c u : WriteAheadState) : Type 0 where
  pub compacted : IsCompacted c.hall u.hall
  pub reported : u.reported ≡ length u.hall.history

-- so it is, or nothing changed
abbrev pub MayCompact : WriteAheadState → WriteAheadState → Type 0
MayCompact c u = (u ≡ c) ⊎ HasCompacted c u

-- the record of a hall that was compacted was put in place of all, with what a crash leaves meanwhile; or the journal is as it was
abbrev pub KeepsWhenCompacted : {D : Type 0} → (D → Option DiskState) → Journal D → Journal D → WriteAheadState → Type 0
KeepsWhenCompacted state old new c = ((hall : HallState) × IsCompacted c.hall hall × Changes (KeepsEither c hall) (state old.disk) (state new.disk)) ⊎ (new ≡ old)

-- nothing is due, and nothing changed
pub record IsNotDue (k : Compactor) (c : WriteAheadState) (l : Compactor) (u : WriteAheadState) : Type 0 where
  pub early : length c.hall.history < k.due
  pub same : (l ≡ k) × (u ≡ c)

-- what the write-ahead hall has now is as short as it gets, and the next compaction is due so long after it
pub record IsDone (l : Compactor) (u : WriteAheadState) : Type 0 where
  pub due : l.due ≡ due_after (length u.hall.history)
  pub put_off : l.put_off ≡ false

-- the shorter history could not be kept: the write-ahead hall is as it was, and the next compaction is due a tenth of the room further on
pub record IsPutOff (c : WriteAheadState) (l : Compactor) (u : WriteAheadState) : Type 0 where
  pub due : l.due ≡ due_again (length c.hall.history)
  pub put_off : l.put_off ≡ true
  pub same : u ≡ c

-- so a compactor and a write-ahead hall may be after a compaction was asked for
abbrev pub IsPaced : Compactor → WriteAheadState → Compactor → WriteAheadState → Type 0
IsPaced k c l u = IsNotDue k c l u ⊎ (k.due ≤ length c.hall.history × (IsDone l u ⊎ IsPutOff c l u))

-- and after one that has no journal to be written into: it is never put off
abbrev pub IsPacedAlone : Compactor → WriteAheadState → Compactor → WriteAheadState → Type 0
IsPacedAlone k c l u = IsNotDue k c l u ⊎ (k.due ≤ length c.hall.history × IsDone l u)
