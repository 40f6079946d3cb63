-- what `record` writes, of an input with at most a million events, and what is said of it (this project's profile)
use Rattle.std.specs.Prelude.{◌≡◌, ◌⊎◌, ℕ, ◌+◌, ◌≤◌, true, List, [], ◌∷◌, map, length, Some, Result, Ok, Err}
use Rattle.model_asked.specs.declared.config.Config.{Config}
use Rattle.model_asked.specs.declared.kind.WorldKind.{WorldKind}
use Rattle.model_asked.specs.Config.{gives_names}
use Rattle.model_asked.specs.declared.bad.Bad.{Bad}
use Rattle.model_asked.specs.declared.command.Command.{Command}
use Rattle.model_asked.specs.declared.command.Command.TheVariants as command
use Rattle.text_lines.specs.Lines.{lines}
use Rattle.text_player.specs.Asked.{asked_by}
use Rattle.text_worlds.specs.IsTranscript.{IsTranscript}
use Rattle.text_player.specs.Played.{Reading, Writing}
use Rattle.text_worlds.specs.Recorded.{IsRecorded}
use Rattle.text_player.specs.Turns.{Turn, asked, exchanges}
use Rattle.text_checker.specs.declared.verdict.Verdict.{Verdict}
use Rattle.text_checker.specs.declared.verdict.Verdict.TheVariants.{Yes, NoMemory}
use Rattle.text_checker.specs.Verdict.{IsVerdict}
use Rattle.text_records.specs.Records.{IsRecordOf}

-- a transcript of this config, in whose world names are given, to what these lines ask, with at most a million events
pub record IsShortTranscript (c : Config) (ls : List (List ℕ)) (ts : List Turn) : Type 0 where
  pub names : gives_names c.world ≡ true
  pub asked_is : map asked ts ≡ asked_by c.world ls
  pub transcript : IsTranscript c ts
  pub few : length (exchanges ts) ≤ 1000000

abbrev pub events_among : List (Result Command Bad) → ℕ
events_among [] = 0
events_among (Ok (command.Event e) ∷ ms) = events_among ms + 1
events_among (Ok (command.Owner n) ∷ ms) = events_among ms
events_among (Ok command.Quit ∷ ms) = events_among ms
events_among (Err bad ∷ ms) = events_among ms

-- how many events an input asks for, up to `quit`
abbrev pub events_in : WorldKind → List ℕ → ℕ
events_in kind input = events_among (asked_by kind (lines input))

-- `record` has ended, of this input with at most a million events, and these bytes are what the writer has, which had none
pub record HasRecorded (c : Config) {R W : Type 0} (reading : Reading R) (writing : Writing W) (input bytes : List ℕ) : Type 0 where
  pub names : gives_names c.world ≡ true
  pub ended : IsRecorded c reading writing (Ok tt)
  pub has : reading.remaining reading.old ≡ Some input
  pub few : events_in c.world input ≤ 1000000
  pub none : writing.contents writing.old ≡ Some []
  pub now : writing.contents writing.new ≡ Some bytes

-- the bytes are the record of a transcript to the lines of this input
pub record RecordsTranscript (c : Config) (input bytes : List ℕ) : Type 0 where
  pub turns : List Turn
  pub transcript : IsShortTranscript c (lines input) turns
  pub record_is : IsRecordOf c (exchanges turns) bytes

-- where no growth is refused, nothing but Yes is said of these bytes
abbrev pub IsYes : List ℕ → Type 0
IsYes bytes = (v : Verdict) → IsVerdict bytes v → (v ≡ Yes) ⊎ (v ≡ NoMemory)
