-- what the calls of a disk do, and what a crash leaves
use Rattle.std.specs.Prelude.{◌≡◌, ◌⊎◌, ℕ, ◌+◌, ◌≤◌, List, ◌++◌, length, take, Option, None, Some, Result, Ok, Err, IfOk}
use mathlib.Core.List.{IsPrefix}
use Rattle.std.specs.declared.vec.Vec.{Vec}
use Rattle.std.specs.declared.alloc.Global.{Global}
use Rattle.service_journal.specs.DiskState.{DiskState}

abbrev pub state_of : List ℕ → ℕ → ℕ → DiskState
state_of contents synced cuts = record { contents = contents; synced = synced; cuts = cuts }

-- with these bytes behind the others
abbrev pub longer_by : DiskState → List ℕ → DiskState
longer_by s bytes = record s { contents = s.contents ++ bytes }

-- with all of it durable
abbrev pub synced_all : DiskState → DiskState
synced_all s = record s { synced = length s.contents }

-- what is known before a call is known after it, and changed so; and of nothing else it becomes known
abbrev pub Changes : (DiskState → DiskState → Type 0) → Option DiskState → Option DiskState → Type 0
Changes Step old new = ((s : DiskState) → old ≡ Some s → (t : DiskState) × (new ≡ Some t) × Step s t) × (old ≡ None → new ≡ None)

-- the bytes stand behind the others; where the call failed, a prefix of them does
abbrev pub IsAppended : {E : Type 0} → List ℕ → Result (Unit {0}) E → DiskState → DiskState → Type 0
IsAppended bytes (Ok done) s t = t ≡ longer_by s bytes
IsAppended bytes (Err why) s t = (part : List ℕ) × IsPrefix part bytes × (t ≡ longer_by s part)

-- all that was written is durable; where the call failed, nothing is known to be that was not
abbrev pub IsSynced : {E : Type 0} → Result (Unit {0}) E → DiskState → DiskState → Type 0
IsSynced (Ok done) s t = t ≡ synced_all s
IsSynced (Err why) s t = t ≡ s

-- some bytes were cut off behind the first so many, and nothing else changed
pub record IsShortened (len : ℕ) (s t : DiskState) : Type 0 where
  pub front : IsPrefix t.contents s.contents
  pub kept : IsPrefix (take len s.contents) t.contents
  pub below : t.synced ≤ length t.contents
  pub counted : t.cuts ≡ s.cuts + 1

-- all bytes behind the first so many; where the call failed, some or none
abbrev pub IsCut : {E : Type 0} → ℕ → Result (Unit {0}) E → DiskState → DiskState → Type 0
IsCut len (Ok done) s t = IsShortened len s t × (t.contents ≡ take len s.contents)
IsCut len (Err why) s t = IsShortened len s t ⊎ (t ≡ s)

-- these bytes stand in place of all others, and are durable
abbrev pub replaced_by : DiskState → List ℕ → DiskState
replaced_by s bytes = state_of bytes (length bytes) (s.cuts + 1)

-- so it is; where the call failed, so it is or nothing changed
abbrev pub IsReplaced : {E : Type 0} → List ℕ → Result (Unit {0}) E → DiskState → DiskState → Type 0
IsReplaced bytes (Ok done) s t = t ≡ replaced_by s bytes
IsReplaced bytes (Err why) s t = (t ≡ s) ⊎ (t ≡ replaced_by s bytes)

-- the bytes that were written are read, and nothing changes
abbrev pub Reads : {E : Type 0} → Result (Vec ℕ Global) E → DiskState → DiskState → Type 0
Reads result s t = (t ≡ s) × IfOk result (λ bytes. bytes.items ≡ s.contents)

-- from one state to another nothing was cut off: what was written has only grown
pub record OnlyGrows (s t : DiskState) : Type 0 where
  pub front : IsPrefix s.contents t.contents
  pub none_cut : t.cuts ≡ s.cuts

-- what a crash may leave at any moment from one state to another, between which nothing was cut off: a prefix of what was written
-- by then, and all that was durable at first
pub record MayLeave (s t : DiskState) (left : List ℕ) : Type 0 where
  pub front : IsPrefix left t.contents
  pub kept : IsPrefix (take s.synced s.contents) left

-- what a crash may leave at any moment of a call that puts these bytes in place of all others, and after it where it failed: what it
-- may leave of the state before the call, or these bytes, all of them
abbrev pub MayLeaveEither : DiskState → List ℕ → List ℕ → Type 0
MayLeaveEither s bytes left = MayLeave s s left ⊎ (left ≡ bytes)
