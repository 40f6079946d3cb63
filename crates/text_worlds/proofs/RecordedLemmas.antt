-- from what was recorded of a desk to the theorem of a recorded run
use Rattle.std.proofs.Common.{◌≡◌, true, Result, Err, inl, inr}
use Rattle.model_asked.specs.Config.{gives_names}
use Rattle.model_asked.specs.declared.config.Config.{Config}
use Rattle.text_worlds.specs.desk.Desk.{IsFreshDesk}
use Rattle.text_worlds.specs.desk.DeskValue.{DeskValue}
use Rattle.text_lines.specs.declared.fault.Fault.{Fault}
use Rattle.text_lines.specs.declared.fault.Fault.TheVariants.{Memory}
use Rattle.text_player.specs.Played.{Reading, Writing}
use Rattle.text_player.specs.lemmas.PlayedProofs.{played_weaker, unplayed}
use Rattle.text_player.specs.Recorded.{IsRecordedOn}
use Rattle.text_player.specs.Records.{record_of}
use Rattle.text_player.specs.Runs.{IsRunTo, CanRun}
use Rattle.text_worlds.specs.DeskWorld.{DeskWorldMay}
use Rattle.text_worlds.specs.IsTranscript.{IsTranscript}
use Rattle.text_worlds.specs.Recorded.{IsRecorded}
use Rattle.text_worlds.proofs.TranscriptLemmas.{desk_transcript}

module _ (c : Config) {R W : Type 0} (reading : Reading R) (writing : Writing W) where
  -- where memory was refused nothing is recorded
  pub unrecorded : reading.new ≡ reading.old → writing.new ≡ writing.old → (result : Result (Unit {0}) Fault) → result ≡ Err Memory → IsRecorded c reading writing result
  unrecorded unread unwritten result is = inl (Err Memory, is, unplayed (record_of c) (IsTranscript c) (IsTranscript c) c.world reading writing unread unwritten)

  -- a fresh desk was played
  pub recorded : gives_names c.world ≡ true → (start last : DeskValue) → IsFreshDesk c start → (result : Result (Unit {0}) Fault) →
      IsRecordedOn c (IsRunTo DeskWorldMay start last) (CanRun DeskWorldMay start) reading writing result → IsRecorded c reading writing result
  recorded named start last fresh result (inl t) = inl (
    t.0,
    t.1,
    played_weaker (record_of c) (IsRunTo DeskWorldMay start last) (CanRun DeskWorldMay start) (IsTranscript c) (IsTranscript c) (λ ts run. desk_transcript c c.world named start last ts fresh run)
        (λ ts run. desk_transcript c c.world named start run.0 ts fresh run.1) c.world reading writing t.0 t.2,
  )
  recorded named start last fresh result (inr t) = inr (t.0, t.1)
