-- the rules and the law of a grid's world
use Rattle.std.proofs.Common.{◌≡◌, ◌≤◌, ◌∙◌, ℕ, List, Option, Some, None, sym, arith}
use Rattle.model_splitter.specs.grid.Law.{GridSpec}
use Rattle.model_splitter.specs.grid.Machine.{GridState, fresh, grid_parts}
use Rattle.model_asked.specs.declared.config.Config.{Config}
use Rattle.model_asked.specs.declared.kind.WorldKind.TheVariants.{Grid}
use Rattle.model_asked.specs.declared.exchange.Exchange.{Exchange}
use Rattle.model_asked.specs.Replies.{ShownReply}
use Rattle.model_asked.specs.declared.reply.Reply.TheVariants as reply
use Rattle.text_worlds.specs.Transcripts.{IsTranscriptOf}
use Rattle.text_player.specs.Turns.{Turn}
use Rattle.text_worlds.specs.lemmas.WorldRuns.{fits_in}
use Rattle.text_worlds.specs.Visits.{IsCallRun, VisitRules, visit_may, world_rules}

-- what a step of a walk is shown as
abbrev pub place_reply : Option ℕ → ShownReply
place_reply None = reply.Quiet
place_reply (Some place) = reply.Place place

abbrev pub grid_rules : VisitRules GridState (Option ℕ)
grid_rules = world_rules grid_parts place_reply

abbrev pub grid_fresh : Config → GridState → Type 0
grid_fresh c w = (c.world ≡ Grid) × (w ≡ fresh c.m)

-- places in a grid are distinct, and within the first diagonals, as many as have begun
abbrev pub IsGridRun : List Exchange → Type 0
IsGridRun r = IsCallRun place_reply GridSpec r

-- what is said in turn in a world of this config
abbrev pub IsGridTranscript : Config → List Turn → Type 0
IsGridTranscript c ts = IsTranscriptOf IsGridRun c.m (grid_fresh c) (visit_may grid_rules) ts

pub one_grid_fresh : (c : Config) (w v : GridState) → grid_fresh c w → grid_fresh c v → w ≡ v
one_grid_fresh c w v a b = a.1 ∙ sym b.1

-- a grid's config lets no more take part than its machine does
pub fits_grid : (c : Config) → c.world ≡ Grid → c.m ≤ 64
fits_grid c is = let few : c.m ≤ 16 = fits_in Grid c is in omega arith
