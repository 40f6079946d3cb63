-- the theorem of a run of a config that is recorded
use Rattle.std.specs.Prelude.{◌≡◌, ◌⊎◌, Result, Err}
use Rattle.model_asked.specs.declared.config.Config.{Config}
use Rattle.text_lines.specs.declared.fault.Fault.{Fault}
use Rattle.text_lines.specs.declared.fault.Fault.TheVariants.{Write}
use Rattle.text_player.specs.declared.summary.Summary.{Summary}
use Rattle.text_player.specs.Played.{Reading, Writing, IsPlayed}
use Rattle.text_player.specs.Recorded.{StopsAtHeader, end_of}
use Rattle.text_player.specs.Records.{record_of}
use Rattle.text_worlds.specs.IsTranscript.{IsTranscript}

-- a run of the config was played, and its record is what is written of it; or not even the header could be written
abbrev pub IsRecorded : Config → {R W : Type 0} → Reading R → Writing W → Result (Unit {0}) Fault → Type 0
IsRecorded config reading writing result =
    ((played : Result Summary Fault) × (result ≡ end_of played) × IsPlayed (record_of config) (IsTranscript config) (IsTranscript config) config.world reading writing played)
    ⊎ ((result ≡ Err Write) × StopsAtHeader config reading writing)
