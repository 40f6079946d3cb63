-- the rules and the law of a desk's world
use Rattle.std.specs.Prelude.{◌≡◌, List}
use Rattle.model_asked.specs.declared.config.Config.{Config}
use Rattle.model_asked.specs.Replies.{ShownReply}
use Rattle.text_worlds.specs.desk.Desk.{IsFreshDesk, desk_rules, owner_reply}
use Rattle.text_worlds.specs.desk.DeskRun.{IsDeskRunOf}
use Rattle.text_worlds.specs.desk.DeskValue.{DeskValue}
use Rattle.text_worlds.specs.desk.Rules.{may_by}
use Rattle.model_asked.specs.Requests.{Request}
use Rattle.model_asked.specs.Requests.Request.{Take, OwnerOf}
use Rattle.text_worlds.specs.Transcripts.{IsTranscriptOf}
use Rattle.text_player.specs.Turns.{Turn}

-- an event is answered by the desk's rules, and who has a name is reported with nothing changed
abbrev pub DeskWorldMay : DeskValue → Request → ShownReply → DeskValue → Type 0
DeskWorldMay w (Take e) r u = may_by desk_rules w e r u
DeskWorldMay w (OwnerOf n) r u = (r ≡ owner_reply w n) × (u ≡ w)

-- what is said in turn in a world of this config
abbrev pub IsDeskTranscript : Config → List Turn → Type 0
IsDeskTranscript c ts = IsTranscriptOf (IsDeskRunOf c) c.m (IsFreshDesk c) DeskWorldMay ts
