-- Why a batch was not answered.
use Rattle.service_log.specs.declared.serve_fault.Cause.{Cause}
use Rattle.service_log.specs.declared.serve_fault.Cause.TheVariants.{Memory, Damaged, Poisoned, Full, Busy, Store}
use Rattle.service_log.specs.declared.machine.ApplyFault.{ApplyFault}
use Rattle.service_log.specs.declared.machine.ApplyFault.TheVariants as apply
use Rattle.service_log.specs.declared.serve_fault.ServeFault.{ServeFault}
use Rattle.service_log.specs.declared.serve_fault.ServeFault.TheVariants.{TooLong, Unknown}
use Rattle.service_log.specs.declared.store_fault.StoreFault.{StoreFault}

-- an entry that was not applied
abbrev pub cause_of_apply : ApplyFault → Cause
cause_of_apply apply.Memory = Memory
cause_of_apply apply.Damaged = Damaged

-- a fault of the store is one that it may tell
abbrev pub MayCause : (StoreFault → Type 0) → Cause → Type 0
MayCause fails (Store fault) = fails fault
MayCause fails Memory = Unit {0}
MayCause fails Damaged = Unit {0}
MayCause fails Poisoned = Unit {0}
MayCause fails Full = Unit {0}
MayCause fails Busy = Unit {0}

abbrev pub MayFail : (StoreFault → Type 0) → ServeFault → Type 0
MayFail fails TooLong = Unit {0}
MayFail fails (Unknown cause) = MayCause fails cause

-- a store in memory lacks memory, has a place before which one is empty, or gave an entry up
abbrev pub FailsInMemory : StoreFault → Type 0
FailsInMemory StoreFault.Memory = Unit {0}
FailsInMemory StoreFault.Gap = Unit {0}
FailsInMemory StoreFault.Lost = ⊥
FailsInMemory StoreFault.Wrong = ⊥
FailsInMemory StoreFault.TooLong = ⊥
FailsInMemory StoreFault.NoSpace = ⊥
FailsInMemory StoreFault.WentBack = ⊥
FailsInMemory StoreFault.Trimmed = Unit {0}
