-- what a fault tells
use Rattle.std.specs.Prelude.{Option, Some, Result, Ok, Err, alloc_error}
use Rattle.std.specs.declared.alloc.AllocError.{AllocError}
use Rattle.text_checker.specs.declared.fault.Fault.{Fault}
use Rattle.text_checker.specs.declared.fault.Fault.TheVariants.{Unlawful, NoMemory}
use Rattle.text_checker.specs.declared.reason.Reason.{Reason}

-- the reason, or that a growth was refused
abbrev pub reported_by : Fault → Result (Option Reason) AllocError
reported_by (Unlawful why) = Ok (Some why)
reported_by NoMemory = Err alloc_error
