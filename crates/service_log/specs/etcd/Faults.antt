-- The faults of a store that is reached over a network.
use Rattle.service_log.specs.declared.store_fault.StoreFault.{StoreFault}

abbrev pub IsOverNetwork : StoreFault → Type 0
IsOverNetwork StoreFault.Memory = Unit {0}
IsOverNetwork StoreFault.Lost = Unit {0}
IsOverNetwork StoreFault.Wrong = Unit {0}
IsOverNetwork StoreFault.TooLong = Unit {0}
IsOverNetwork StoreFault.Gap = ⊥
IsOverNetwork StoreFault.NoSpace = Unit {0}
IsOverNetwork StoreFault.WentBack = Unit {0}
IsOverNetwork StoreFault.Trimmed = Unit {0}
