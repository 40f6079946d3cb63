-- what rules allow from a fresh world is a transcript
use Rattle.std.proofs.Common.{◌≡◌, ℕ, true, List}
use Rattle.model_asked.specs.declared.exchange.Exchange.{Exchange}
use Rattle.model_asked.specs.Replies.{ShownReply}
use Rattle.model_asked.specs.Config.{gives_names}
use Rattle.model_asked.specs.lemmas.KindProofs.{where_named}
use Rattle.text_worlds.specs.desk.Desk.{IsFreshDesk}
use Rattle.text_worlds.specs.desk.DeskRun.{IsDeskRunOf}
use Rattle.text_worlds.specs.desk.DeskValue.{DeskValue}
use Rattle.model_asked.specs.declared.config.Config.{Config}
use Rattle.model_asked.specs.declared.kind.WorldKind.{WorldKind}
use Rattle.text_worlds.specs.DeskWorld.{DeskWorldMay}
use Rattle.text_worlds.specs.lemmas.DeskWorldProofs.{desk_lawful, desk_tells}
use Rattle.text_worlds.specs.IsTranscript.{IsTranscriptByKind}
use Rattle.model_asked.specs.Requests.{Request}
use Rattle.text_player.specs.Runs.{Runs}
use Rattle.text_worlds.specs.Transcripts.{AreOwnersReported, IsTranscriptOf}
use Rattle.text_player.specs.Turns.{Turn, exchanges}

pub transcript_of_run : {T : Type 0} (IsRun : List Exchange → Type 0) (most : ℕ) (fresh : T → Type 0) (may : T → Request → ShownReply → T → Type 0)
    (lawful : (w u : T) (ts : List Turn) → fresh w → Runs may w ts u → IsRun (exchanges ts)) (tells : (w u : T) (ts : List Turn) → fresh w → Runs may w ts u → AreOwnersReported most ts)
    (w u : T) (ts : List Turn) → fresh w → Runs may w ts u → IsTranscriptOf IsRun most fresh may ts
transcript_of_run IsRun most fresh may lawful tells w u ts is_fresh run = record {
  run = lawful w u ts is_fresh run;
  owners = tells w u ts is_fresh run;
  could = record { start = w; last = u; is_fresh = is_fresh; run = run };
}

-- and so it is of a desk, in the worlds with names
pub desk_transcript : (c : Config) (k : WorldKind) → gives_names k ≡ true → (w u : DeskValue) (ts : List Turn) → IsFreshDesk c w → Runs DeskWorldMay w ts u → IsTranscriptByKind k c ts
desk_transcript c k named w u ts is_fresh run =
    let transcript = transcript_of_run (IsDeskRunOf c) c.m (IsFreshDesk c) DeskWorldMay (desk_lawful c) (desk_tells c) w u ts is_fresh run in
    where_named (λ (x : WorldKind). IsTranscriptByKind x c ts) k named transcript transcript transcript
