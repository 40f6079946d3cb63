-- a disk whose lines stand beside their checksums, as a contract sees it
use Rattle.std.specs.Prelude.{◌≡◌, ℕ, ◌≤◌, Bool, false, List, [], length, take, Option, None, Some}
use Rattle.text_lines.specs.Lines.{rest_of}
use Rattle.text_records.specs.Seals.{lines_in}
use Rattle.text_records.specs.declared.seals.LineForm.TheVariants.{Plain}
use Rattle.service_journal.specs.DiskState.{DiskState}
use Rattle.service_journal.specs.Disks.{state_of}
use Rattle.service_journal.specs.Journals.{without_torn}

-- it has the lines alone, and of these so many are durable as are whole in what is durable
abbrev pub opened_state : DiskState → DiskState
opened_state s = state_of (lines_in Plain s.contents) (length (lines_in Plain (take s.synced s.contents))) s.cuts

abbrev pub seen : Option DiskState → Option DiskState
seen None = None
seen (Some s) = Some (opened_state s)

-- nothing follows the last LF, and no more is durable than was written
pub record HasWholeLines (s : DiskState) : Type 0 where
  pub whole : rest_of s.contents ≡ []
  pub below : s.synced ≤ length s.contents

-- so it is of what is known of a disk, unless a write failed
abbrev pub AreWholeUnless : Bool → Option DiskState → Type 0
AreWholeUnless torn state = torn ≡ false → (s : DiskState) → state ≡ Some s → HasWholeLines s

-- only whole lines are left, and all of it is durable
pub record HasKeptLines (s t : DiskState) : Type 0 where
  pub lines : t.contents ≡ without_torn s.contents
  pub synced : t.synced ≡ length t.contents

-- the lines that stand there are opened, and all of it is durable
pub record HasOpened (s t : DiskState) : Type 0 where
  pub lines : t.contents ≡ lines_in Plain s.contents
  pub synced : t.synced ≡ length t.contents
