-- from what a run has written after the header to the theorem of a recorded run
use Rattle.std.proofs.Common.{◌≡◌, flat_map, List, Result, Err, inl}
use Rattle.text_player.proofs.Common.{Appends, Fault, Memory, Summary, Turn}
use Rattle.model_asked.specs.declared.config.Config.{Config}
use Rattle.text_player.specs.Played.{Reading, Writing, writing_from, IsPlayed}
use Rattle.text_player.specs.lemmas.PlayedProofs.{played_after, unplayed}
use Rattle.text_player.specs.Recorded.{IsRecordedOn, end_of}
use Rattle.text_player.specs.Records.{header_line, record_of, turn_record}

module _ (c : Config) (IsTranscript MayTranscript : List Turn → Type 0) {R W : Type 0} (reading : Reading R) (writing : Writing W) where
  -- where memory was refused nothing is recorded
  pub unrecorded : reading.new ≡ reading.old → writing.new ≡ writing.old → (result : Result (Unit {0}) Fault) → result ≡ Err Memory → IsRecordedOn c IsTranscript MayTranscript reading writing result
  unrecorded unread unwritten result is = inl (Err Memory, is, unplayed (record_of c) IsTranscript MayTranscript c.world reading writing unread unwritten)

  -- after the header a run was played
  pub recorded : (mid : W) → Appends (writing.contents writing.old) (writing.contents mid) (header_line c) → writing.failed mid ≡ writing.failed writing.old →
      (played : Result Summary Fault) → (played ≡ Err Memory → ⊥) → IsPlayed (flat_map turn_record) IsTranscript MayTranscript c.world reading (writing_from writing mid) played →
      (result : Result (Unit {0}) Fault) → result ≡ end_of played → IsRecordedOn c IsTranscript MayTranscript reading writing result
  recorded mid begun unfailed played never t result is = inl (
    played,
    is,
    played_after (header_line c) (flat_map turn_record) IsTranscript MayTranscript IsTranscript MayTranscript (λ ts transcript. transcript) (λ ts transcript. transcript) c.world reading writing mid begun unfailed played
        (λ e. absurd (never e)) t,
  )
