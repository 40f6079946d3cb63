-- the status of the program (this project's profile)
use Rattle.std.specs.Prelude.{ℕ, Result, Ok, Err}
use Rattle.text_lines.specs.declared.fault.Fault.{Fault}
use Rattle.tool_work.specs.declared.failure.Failure.{Failure}
use Rattle.tool_work.specs.declared.failure.Failure.TheVariants as failure
use Rattle.tool_work.specs.declared.misuse.Misuse.TheVariants.{Help, Words, Memory}

-- 0 for help, 1 for a record that is not shown, 2 for words that are refused, and 3 for a fault or an allocation failure
abbrev pub status_of : Failure → ℕ
status_of (failure.Misuse (Help text)) = 0
status_of (failure.Misuse (Words text)) = 2
status_of (failure.Misuse Memory) = 3
status_of (failure.No number why) = 1
status_of (failure.BadRecord number) = 1
status_of (failure.Fault fault) = 3

-- a run that came to its end is done, with status 0; a fault of it is reported
abbrev pub status_after : {T : Type 0} → Result T Fault → Result ℕ Fault
status_after (Ok summary) = Ok 0
status_after (Err fault) = Err fault
