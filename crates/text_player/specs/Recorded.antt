-- the theorem of a run that is recorded
use Rattle.std.specs.Prelude.{◌≡◌, ◌<◌, ◌⊎◌, List, [], Result, Ok, Err}
use Rattle.model_asked.specs.declared.config.Config.{Config}
use Rattle.text_lines.specs.declared.fault.Fault.{Fault}
use Rattle.text_lines.specs.declared.fault.Fault.TheVariants.{Write}
use Rattle.text_lines.specs.Written.{HasPartOf}
use Rattle.text_player.specs.declared.summary.Summary.{Summary}
use Rattle.text_player.specs.Played.{Reading, Writing, IsPlayed}
use Rattle.text_player.specs.Records.{header_line, record_of}
use Rattle.text_player.specs.Turns.{Turn}

-- the header could not be written. A write failed with nothing read, and the writer has gained a prefix of the header
pub record StopsAtHeader (config : Config) {R W : Type 0} (reading : Reading R) (writing : Writing W) : Type 0 where
  pub why : writing.failed writing.old < writing.failed writing.new
  pub unread : reading.new ≡ reading.old
  pub part : HasPartOf (writing.contents writing.old) (writing.contents writing.new) (header_line config)

-- how a run ended, without its counts
abbrev pub end_of : Result Summary Fault → Result (Unit {0}) Fault
end_of (Ok summary) = Ok tt
end_of (Err fault) = Err fault

-- such a run was played, and it wrote its record. Or it could not write the whole header, and there is no turn
abbrev pub IsRecordedOn : Config → (List Turn → Type 0) → (List Turn → Type 0) → {R W : Type 0} →
    Reading R → Writing W → Result (Unit {0}) Fault → Type 0
IsRecordedOn config IsTranscript MayTranscript reading writing result =
    ((played : Result Summary Fault) × (result ≡ end_of played) × IsPlayed (record_of config) IsTranscript MayTranscript config.world reading writing played)
    ⊎ ((result ≡ Err Write) × StopsAtHeader config reading writing × IsTranscript [])
