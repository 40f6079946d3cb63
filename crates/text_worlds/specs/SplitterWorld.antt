-- the rules and the law of a splitter's world
use Rattle.std.proofs.Common.{◌≡◌, ◌∙◌, List, Option, Some, None, sym}
use Rattle.model_splitter.specs.declared.way.Way.{Way}
use Rattle.model_splitter.specs.declared.way.Way.TheVariants.{Stop, Right, Down}
use Rattle.model_splitter.specs.Law.{SplitterSpec}
use Rattle.model_splitter.specs.Machine.{SplitterState, fresh, splitter_parts}
use Rattle.model_asked.specs.declared.config.Config.{Config}
use Rattle.model_asked.specs.declared.exchange.Exchange.{Exchange}
use Rattle.model_asked.specs.Replies.{ShownReply}
use Rattle.model_asked.specs.declared.reply.Reply.TheVariants as reply
use Rattle.text_worlds.specs.Transcripts.{IsTranscriptOf}
use Rattle.text_player.specs.Turns.{Turn}
use Rattle.text_worlds.specs.Visits.{IsCallRun, VisitRules, visit_may, world_rules}

-- what a step of a visit is shown as
abbrev pub way_reply : Option Way → ShownReply
way_reply None = reply.Quiet
way_reply (Some Stop) = reply.Stop
way_reply (Some Right) = reply.Right
way_reply (Some Down) = reply.Down

abbrev pub splitter_rules : VisitRules SplitterState (Option Way)
splitter_rules = world_rules splitter_parts way_reply

abbrev pub splitter_fresh : Config → SplitterState → Type 0
splitter_fresh c w = w ≡ fresh c.m

-- of all that visit one splitter at most one stops; not all go right, and not all go down
abbrev pub IsSplitterRun : List Exchange → Type 0
IsSplitterRun r = IsCallRun way_reply SplitterSpec r

-- what is said in turn in a world of this config
abbrev pub IsSplitterTranscript : Config → List Turn → Type 0
IsSplitterTranscript c ts = IsTranscriptOf IsSplitterRun c.m (splitter_fresh c) (visit_may splitter_rules) ts

pub one_splitter_fresh : (c : Config) (w v : SplitterState) → splitter_fresh c w → splitter_fresh c v → w ≡ v
one_splitter_fresh c w v a b = a ∙ sym b
