-- what is shown of a record that a reader gives
use Rattle.std.specs.Prelude.{◌≡◌, ◌+◌, ◌≤◌, ℕ, List, Result, Ok, Err, IfOk}
use Rattle.text_checker.specs.Reasons.{reason_number}
use Rattle.text_checker.specs.declared.verdict.Verdict.{Verdict}
use Rattle.text_checker.specs.declared.verdict.Verdict.TheVariants.{Yes, No, BadRecord, NoMemory}
use Rattle.tool_work.specs.page.Shown.{IsShown}
use Rattle.tool_work.specs.declared.page.stretch.Stretch.{Stretch}
use Rattle.text_lines.specs.declared.fault.Fault.{Fault}
use Rattle.text_lines.specs.declared.fault.Fault.TheVariants.{Read, Write, Memory}
use Rattle.text_player.specs.Played.{Reading, Writing}
use Rattle.text_player.specs.declared.playing.TheConstants.{MOST_READS}
use Rattle.tool_work.specs.declared.asked.Showing.{Showing}
use Rattle.tool_work.specs.Checked.{HasFailedRead, IsWhole}
use Rattle.tool_work.specs.declared.failure.Failure.{Failure}
use Rattle.tool_work.specs.declared.failure.Failure.TheVariants as failure
use Rattle.tool_work.specs.declared.outcome.Outcome.{Outcome}
use Rattle.tool_work.specs.declared.outcome.Outcome.TheVariants as outcome

abbrev pub stretch_asked : Showing → Stretch
stretch_asked s = record { from = s.from; count = s.count }

-- a record is read to its end and shown: its verdict, with its page written where that is yes and nothing elsewhere; at a write fault
-- a prefix of its page; and nothing where a read failed, or where none did and memory was refused
pub record IsShownFor (s : Stretch) {R W : Type 0} (reading : Reading R) (writing : Writing W) (result : Result Verdict Fault) : Type 0 where
  pub ok : IfOk result (λ v. (input : List ℕ) × IsWhole reading input × IsShown writing input s (Ok v))
  pub write_fault : result ≡ Err Write → (input : List ℕ) × IsWhole reading input × IsShown writing input s (Err Write)
  pub read_fault : result ≡ Err Read → HasFailedRead reading × (writing.new ≡ writing.old)
  pub memory : result ≡ Err Memory → (writing.new ≡ writing.old) × (reading.failed reading.new ≡ reading.failed reading.old)
  pub reads : reading.calls reading.new ≤ reading.calls reading.old + MOST_READS

-- a page that is written is done, with status 0; another verdict is reported, as is a fault
abbrev pub outcome_shown : Result Verdict Fault → Result Outcome Failure
outcome_shown (Ok Yes) = Ok (outcome.Ended 0)
outcome_shown (Ok (No number why)) = Err (failure.No number (reason_number why))
outcome_shown (Ok (BadRecord number)) = Err (failure.BadRecord number)
outcome_shown (Ok NoMemory) = Err (failure.Fault Memory)
outcome_shown (Err fault) = Err (failure.Fault fault)
