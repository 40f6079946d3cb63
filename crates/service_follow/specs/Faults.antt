-- faults behind which nothing more is served
use Rattle.std.specs.Prelude.{Option, Some, None, Result, Ok, Err}
use Rattle.model_steps.specs.declared.refusal.Refusal.{Refusal}
use Rattle.model_steps.specs.declared.refusal.Refusal.TheVariants as refusal
use Rattle.service_log.specs.declared.serve_fault.Cause.{Cause}
use Rattle.service_log.specs.declared.serve_fault.Cause.TheVariants as cause
use Rattle.service_log.specs.declared.serve_fault.ServeFault.{ServeFault}
use Rattle.service_log.specs.declared.serve_fault.ServeFault.TheVariants as serve
use Rattle.service_log.specs.declared.store_fault.StoreFault.{StoreFault}
use Rattle.service_log.specs.declared.store_fault.StoreFault.TheVariants as store
use Rattle.service_follow.specs.declared.log_fault.LogFault.{LogFault}
use Rattle.service_follow.specs.declared.log_fault.LogFault.TheVariants as fault

-- a log that went back, or gave up what was to be read next; a store that does not answer may be asked again
abbrev pub fault_of_store : StoreFault → Option LogFault
fault_of_store store.WentBack = Some fault.WentBack
fault_of_store store.Trimmed = Some fault.Trimmed
fault_of_store store.Memory = None
fault_of_store store.Lost = None
fault_of_store store.Wrong = None
fault_of_store store.TooLong = None
fault_of_store store.Gap = None
fault_of_store store.NoSpace = None

-- an allocation failure and of places, and a fault of the store of which nothing comes again
abbrev pub fault_of_cause : Cause → Option LogFault
fault_of_cause cause.Memory = Some fault.Memory
fault_of_cause cause.Damaged = Some fault.Damaged
fault_of_cause cause.Poisoned = Some fault.Memory
fault_of_cause cause.Full = Some fault.Full
fault_of_cause (cause.Store why) = fault_of_store why
fault_of_cause cause.Busy = None

abbrev pub fault_of : ServeFault → Option LogFault
fault_of serve.TooLong = Some fault.TooLong
fault_of (serve.Unknown cause) = fault_of_cause cause

abbrev pub unless_gone_by : Option LogFault → Result (Unit {0}) LogFault
unless_gone_by None = Ok tt
unless_gone_by (Some fault) = Err fault

-- what comes of a call: the fault behind which nothing more is served, where it met one
abbrev pub unless_gone : {T : Type 0} → Result T Cause → Result (Unit {0}) LogFault
unless_gone (Ok done) = Ok tt
unless_gone (Err why) = unless_gone_by (fault_of_cause why)

-- why a hall was not opened
abbrev pub fault_of_refusal : Refusal → LogFault
fault_of_refusal refusal.NoMemory = fault.Memory
fault_of_refusal why = fault.NoNames
