-- what a disk in memory is as a disk
use Rattle.std.specs.Prelude.{Option, None, Some}
use Rattle.service_journal.specs.declared.memory_disk.Before.{Before}
use Rattle.service_journal.specs.declared.memory_disk.MemoryDisk.{MemoryDisk}
use Rattle.service_journal.specs.DiskState.{DiskState}
use Rattle.service_journal.specs.Disks.{state_of}

abbrev pub memory_state : MemoryDisk → DiskState
memory_state d = state_of d.bytes.items d.synced d.cuts

abbrev pub state_before : Option Before → DiskState → DiskState
state_before None now = now
state_before (Some before) now = state_of before.bytes.items before.synced now.cuts

-- what a crash may bring back: what stood before a replacing that failed, where the last one did
abbrev pub memory_before : MemoryDisk → DiskState
memory_before d = state_before d.before (memory_state d)
