-- what is done for the words of a command line
use Rattle.std.specs.Prelude.{◌≡◌, ◌⊎◌, ◌<◌, ⊤, Bool, true, false, ℕ, zero, suc, List, Option, Result, Ok, Err, IfOk, IfErr}
use Rattle.std.specs.Io.KnownBytes.{Appends}
use Rattle.tool_work.specs.drawn.Runs.{HasDrawn, HasDrawnPart}
use Rattle.tool_work.specs.drawn.Schedule.{schedule}
use Rattle.text_lines.specs.Events.{event_lines}
use Rattle.text_worlds.specs.IsTranscript.{IsTranscript}
use Rattle.text_lines.specs.declared.fault.Fault.{Fault}
use Rattle.text_lines.specs.declared.fault.Fault.TheVariants.{Write, Memory}
use Rattle.text_lines.specs.Written.{HasPartOf}
use Rattle.text_player.specs.Played.{Reading, Writing, IsPlayed}
use Rattle.text_player.specs.Texts.{replies_of}
use Rattle.text_player.specs.declared.summary.Summary.{Summary}
use Rattle.text_checker.specs.declared.verdict.Verdict.{Verdict}
use Rattle.text_worlds.specs.Recorded.{IsRecorded}
use Rattle.model_asked.specs.declared.config.Config.{Config}
use Rattle.tool_work.specs.declared.asked.Ask.{Ask}
use Rattle.tool_work.specs.declared.asked.Ask.TheVariants.{Play, Check, Migrate, Show, Draw, Race, Serve, Host, Held}
use Rattle.tool_work.specs.declared.asked.Drawing.{Drawing}
use Rattle.tool_work.specs.declared.asked.Showing.{Showing}
use Rattle.tool_work.specs.declared.failure.Failure.{Failure}
use Rattle.tool_work.specs.declared.failure.Failure.TheVariants as failure
use Rattle.tool_work.specs.declared.misuse.Misuse.{Misuse}
use Rattle.tool_work.specs.declared.outcome.Outcome.{Outcome}
use Rattle.tool_work.specs.declared.outcome.Outcome.TheVariants as outcome
use Rattle.tool_work.specs.Checked.{IsChecked, IsRewritten}
use Rattle.tool_work.specs.Shown.{IsShownFor, outcome_shown, stretch_asked}
use Rattle.tool_work.specs.Statuses.{status_after, status_of}

-- a status is answered, and a fault is a failure
abbrev pub outcome_of : Result ℕ Fault → Result Outcome Failure
outcome_of (Ok status) = Ok (outcome.Ended status)
outcome_of (Err fault) = Err (failure.Fault fault)

-- what is drawn: the lines of a schedule, or those of runs
abbrev pub IsDrawn : ℕ → Drawing → (List ℕ → Type 0) → Type 0
IsDrawn zero d Reported = Reported (event_lines (schedule d.seed d.ids d.steps))
IsDrawn (suc more) d Reported = HasDrawn d.config d.seed d.ids d.steps d.runs Reported

-- a prefix of it
abbrev pub IsPartDrawn : ℕ → Drawing → Option (List ℕ) → Option (List ℕ) → Type 0
IsPartDrawn zero d before now = HasPartOf before now (event_lines (schedule d.seed d.ids d.steps))
IsPartDrawn (suc more) d before now = HasDrawnPart d.config d.seed d.ids d.steps d.runs before now

-- a drawing is written: where all of it, with status 0; at a fault, of the writer or because an allocation failed, a prefix of it
pub record IsDrawnBy {W : Type 0} (d : Drawing) (writing : Writing W) (result : Result ℕ Fault) : Type 0 where
  pub ok : IfOk result (λ status. (status ≡ 0) × IsDrawn d.runs d (Appends (writing.contents writing.old) (writing.contents writing.new)) × (writing.failed writing.new ≡ writing.failed writing.old))
  pub write_fault : result ≡ Err Write → IsPartDrawn d.runs d (writing.contents writing.old) (writing.contents writing.new) × (writing.failed writing.old < writing.failed writing.new)
  pub memory : result ≡ Err Memory → IsPartDrawn d.runs d (writing.contents writing.old) (writing.contents writing.new) × (writing.failed writing.new ≡ writing.failed writing.old)
  pub only : IfErr result (λ fault. (fault ≡ Write) ⊎ (fault ≡ Memory))

-- a config is played, with the theorem of a run whose replies are written, or whose record is
abbrev pub IsPlayedBy : {R W : Type 0} → Bool → Config → Reading R → Writing W → Result ℕ Fault → Type 0
IsPlayedBy false config reading writing status =
    (played : Result Summary Fault) × (status ≡ status_after played) × IsPlayed replies_of (IsTranscript config) (IsTranscript config) config.world reading writing played
IsPlayedBy true config reading writing status =
    (recorded : Result (Unit {0}) Fault) × (status ≡ status_after recorded) × IsRecorded config reading writing recorded

-- what was asked for is done, and this is its status: a run is played; or a record is checked, or written again; or nothing is read, and a
-- drawing is written. To show a record, to race, to serve, to host and to tell who holds numbers is done otherwise
abbrev pub IsWorked : {R W : Type 0} → Ask → Reading R → Writing W → Result ℕ Fault → Type 0
IsWorked (Play playing) reading writing status = IsPlayedBy playing.recorded playing.config reading writing status
IsWorked Check reading writing status = IsChecked reading writing status
IsWorked Migrate reading writing status = IsRewritten reading writing status
IsWorked (Draw drawing) reading writing status = (reading.new ≡ reading.old) × IsDrawnBy drawing writing status
IsWorked a reading writing status = ⊥

-- this is asked for: to play, to check, to migrate or to draw
abbrev pub IsWork : Ask → Type 0
IsWork (Play playing) = ⊤
IsWork Check = ⊤
IsWork Migrate = ⊤
IsWork (Draw drawing) = ⊤
IsWork a = ⊥

-- it is done so, and this is the outcome
abbrev pub HasWorked : {R W : Type 0} → Ask → Reading R → Writing W → Result Outcome Failure → Type 0
HasWorked ask reading writing result = (status : Result ℕ Fault) × (result ≡ outcome_of status) × IsWorked ask reading writing status

-- a record is shown, and this is the outcome
abbrev pub HasShown : {R W : Type 0} → Showing → Reading R → Writing W → Result Outcome Failure → Type 0
HasShown showing reading writing result = (shown : Result Verdict Fault) × (result ≡ outcome_shown shown) × IsShownFor (stretch_asked showing) reading writing shown

-- to race, to serve, to host and to tell who holds numbers is left, with nothing read or written
abbrev pub IsDoneFor : {R W : Type 0} → Ask → Reading R → Writing W → Result Outcome Failure → Type 0
IsDoneFor (Play config) reading writing result = HasWorked (Play config) reading writing result
IsDoneFor Check reading writing result = HasWorked Check reading writing result
IsDoneFor Migrate reading writing result = HasWorked Migrate reading writing result
IsDoneFor (Show showing) reading writing result = HasShown showing reading writing result
IsDoneFor (Draw drawing) reading writing result = HasWorked (Draw drawing) reading writing result
IsDoneFor (Race racing) reading writing result = (result ≡ Ok (outcome.Race racing)) × (reading.new ≡ reading.old) × (writing.new ≡ writing.old)
IsDoneFor (Serve serving) reading writing result = (result ≡ Ok (outcome.Serve serving)) × (reading.new ≡ reading.old) × (writing.new ≡ writing.old)
IsDoneFor (Host hosting) reading writing result = (result ≡ Ok (outcome.Host hosting)) × (reading.new ≡ reading.old) × (writing.new ≡ writing.old)
IsDoneFor Held reading writing result = (result ≡ Ok outcome.Held) × (reading.new ≡ reading.old) × (writing.new ≡ writing.old)

-- where the words ask for nothing that is done, nothing is read or written; what they ask for is done
abbrev pub IsDone : {R W : Type 0} → Reading R → Writing W → Result Ask Misuse → Result Outcome Failure → Type 0
IsDone reading writing (Err misuse) result = (result ≡ Err (failure.Misuse misuse)) × (reading.new ≡ reading.old) × (writing.new ≡ writing.old)
IsDone reading writing (Ok ask) result = IsDoneFor ask reading writing result

-- what was done is answered as it is, with nothing written after it. A failure is reported, and its status is answered, or 3 where it can't be reported
abbrev pub IsAnswered : {W : Type 0} → Result Outcome Failure → W → W → Outcome → Type 0
IsAnswered (Ok done) at now answer = (answer ≡ done) × (now ≡ at)
IsAnswered (Err why) at now answer = (status : ℕ) × (answer ≡ outcome.Ended status) × ((status ≡ status_of why) ⊎ (status ≡ 3))
