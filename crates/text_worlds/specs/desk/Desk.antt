-- a desk of either world: its replies, and its state after calls
use Rattle.std.specs.Prelude.{◌≡◌, ℕ, ◌*◌, ◌==◌, ◌||◌, nat_le, Bool, false, if◌then◌else◌, List, [], ◌∷◌, ◌++◌, Option}
use Rattle.model_steps.specs.declared.refusal.Refusal.{Refusal}
use Rattle.model_steps.specs.declared.refusal.Refusal.TheVariants as refusal
use Rattle.model_renaming.specs.over.Grid.{fresh_grid}
use Rattle.model_renaming.specs.over.GridTies.{grid_places}
use Rattle.model_renaming.specs.over.Tree.{new_tree}
use Rattle.model_renaming.specs.over.TreeTies.{tree_places}
use Rattle.model_asked.specs.Config.{is_tree, IsOverGrid}
use Rattle.model_asked.specs.declared.config.Config.{Config}
use Rattle.model_asked.specs.declared.kind.WorldKind.{WorldKind}
use Rattle.model_asked.specs.declared.kind.WorldKind.TheVariants.{Rename, Tree}
use Rattle.model_renaming.specs.RenameWorld.{owner_by}
use Rattle.model_asked.specs.declared.event.Event.{Event}
use Rattle.model_asked.specs.Replies.{ShownReply}
use Rattle.model_asked.specs.declared.reply.Reply.TheVariants as reply
use Rattle.text_worlds.specs.desk.DeskCalls.{DeskCall, exchange, exchange_of, ReachesDesk}
use Rattle.text_worlds.specs.desk.DeskRules.{fresh_over, refusal_over, reply_over, after_over, grows_over}
use Rattle.text_worlds.specs.desk.DeskState.{DeskState}
use Rattle.text_worlds.specs.desk.DeskValue.{DeskValue}
use Rattle.text_worlds.specs.desk.DeskValue.DeskValue.{OverGrid, OverTree}
use Rattle.text_worlds.specs.desk.Rules.{Rules}
use Rattle.text_worlds.specs.desk.Start.{pool_start}

abbrev pub desk_reply : DeskValue → Event → ShownReply
desk_reply (OverGrid w) e = reply_over grid_places w e
desk_reply (OverTree w) e = reply_over tree_places w e

abbrev pub desk_after : DeskValue → Event → DeskValue
desk_after (OverGrid w) e = OverGrid (after_over grid_places w e)
desk_after (OverTree w) e = OverTree (after_over tree_places w e)

-- an allocation may fail only over a tree
abbrev pub desk_grows : DeskValue → Event → Bool
desk_grows (OverGrid w) e = false
desk_grows (OverTree w) e = grows_over tree_places w e

-- the one reply to an event and the one desk after it. Over a tree a step for which no refusal is due may fail with
-- `NoMemory` instead
abbrev pub desk_rules : Rules DeskValue
desk_rules = record { reply = desk_reply; after = desk_after; grows = desk_grows }

-- why an event would be refused, failed allocations aside
abbrev pub desk_refusal : DeskValue → Event → Option Refusal
desk_refusal (OverGrid w) e = refusal_over w e
desk_refusal (OverTree w) e = refusal_over w e

-- the reply to a question for the owner of a number, if names are from 1 to 2m - 1
abbrev pub owner_reported : ℕ → ℕ → Option ℕ → ShownReply
owner_reported most number owner = if (number == 0) || nat_le (2 * most) number then reply.Refused refusal.OutOfRange else reply.Owner owner

abbrev pub owner_over : {S U K : Type 0} → DeskState S U K → ℕ → ShownReply
owner_over w number = owner_reported w.names.snap.most number (owner_by number w.names.rounds)

-- the owner of a name, as a desk reports it
abbrev pub owner_reply : DeskValue → ℕ → ShownReply
owner_reply (OverGrid w) number = owner_over w number
owner_reply (OverTree w) number = owner_over w number

-- the desk of a config whose world gives names, before any call
abbrev pub fresh_in : WorldKind → Config → DeskValue
fresh_in kind config =
    if is_tree kind then OverTree (fresh_over (new_tree config.m) config.m config.limit (pool_start config))
    else OverGrid (fresh_over (fresh_grid config.m) config.m config.limit (pool_start config))

abbrev pub fresh_desk : Config → DeskValue
fresh_desk config = fresh_in config.world config

-- this is the one desk of this config before any call
abbrev pub IsFreshDesk : Config → DeskValue → Type 0
IsFreshDesk config (OverGrid w) = IsOverGrid config.world × (w ≡ fresh_over (fresh_grid config.m) config.m config.limit (pool_start config))
IsFreshDesk config (OverTree w) = (config.world ≡ Tree) × (w ≡ fresh_over (new_tree config.m) config.m config.limit (pool_start config))

-- a desk of this config after these calls
abbrev pub IsAfterDesk : Config → DeskValue → List DeskCall → Type 0
IsAfterDesk config (OverGrid w) calls = IsOverGrid config.world × ReachesDesk grid_places Rename config.m config.limit (pool_start config) w calls
IsAfterDesk config (OverTree w) calls = (config.world ≡ Tree) × ReachesDesk tree_places Tree config.m config.limit (pool_start config) w calls

-- these calls, and then one call that is this exchange, lead to this desk
pub record LeadsDesk (config : Config) (calls : List DeskCall) (e : Event) (r : ShownReply) (new : DeskValue) : Type 0 where
  pub call : DeskCall
  pub spelled : exchange_of call ≡ exchange e r
  pub after : IsAfterDesk config new (calls ++ call ∷ [])
