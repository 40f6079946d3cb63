-- the laws of a desk
use Rattle.std.specs.Prelude.{◌≡◌, ◌≢◌, ◌↔◌, ℕ, true, List, [], map, Some}
use Rattle.model_steps.specs.declared.refusal.Refusal.{Refusal}
use Rattle.model_steps.specs.declared.refusal.Refusal.TheVariants as refusal
use Rattle.model_snapshot.specs.Snapshot.{SnapBounds}
use Rattle.model_asked.specs.declared.config.Config.{Config}
use Rattle.model_renaming.specs.RenameObject.{RenameTerms}
use Rattle.model_asked.specs.declared.event.Event.{Event}
use Rattle.model_asked.specs.declared.exchange.Exchange.{Exchange}
use Rattle.model_asked.specs.Replies.{ShownReply}
use Rattle.model_asked.specs.declared.reply.Reply.TheVariants as reply
use Rattle.model_asked.specs.Config.{gives_names}
use Rattle.text_worlds.specs.desk.Desk.{fresh_desk, desk_reply, desk_rules, desk_refusal, owner_reply, IsFreshDesk, IsAfterDesk, LeadsDesk}
use Rattle.text_worlds.specs.desk.DeskCalls.{DeskCall, exchange_of}
use Rattle.text_worlds.specs.desk.DeskRun.{IsDeskRun, IsDeskRunOf}
use Rattle.text_worlds.specs.desk.DeskValue.{DeskValue}
use Rattle.text_worlds.specs.desk.Names.{IsOwnerReply}
use Rattle.text_worlds.specs.desk.Rules.{may_by}
use Rattle.model_pool.specs.PoolState.{PoolStart}

-- the config's world gives names, and this is its fresh desk
pub record IsThisDesk (c : Config) (w : DeskValue) : Type 0 where
  pub named : gives_names c.world ≡ true
  pub is : w ≡ fresh_desk c

-- no calls lead to a fresh desk
abbrev pub BeginsDesk : Type 0
BeginsDesk = (c : Config) (w : DeskValue) → IsFreshDesk c w → IsAfterDesk c w []

-- a config whose world gives names has a fresh desk, and it is this one
abbrev pub HasFreshDesk : Type 0
HasFreshDesk = (c : Config) (w : DeskValue) → IsFreshDesk c w ↔ IsThisDesk c w

-- any two fresh desks of one config are equal
abbrev pub IsOneFreshDesk : Type 0
IsOneFreshDesk = (c : Config) (w u : DeskValue) → IsFreshDesk c w → IsFreshDesk c u → w ≡ u

-- each answer that a desk may give to an event extends its history by one call, which is this exchange
abbrev pub DeskGoesOn : Type 0
DeskGoesOn = (c : Config) (w : DeskValue) (calls : List DeskCall) → IsAfterDesk c w calls → (e : Event) (r : ShownReply) (u : DeskValue) → may_by desk_rules w e r u → LeadsDesk c calls e r u

-- the exchanges of every list of calls that leads to a desk are a run
abbrev pub DeskKeepsRuns : Type 0
DeskKeepsRuns = (c : Config) (w : DeskValue) (calls : List DeskCall) → IsAfterDesk c w calls → IsDeskRunOf c (map exchange_of calls)

-- the reply to a question for the owner of a name is right after these exchanges
abbrev pub TellsOwners : DeskValue → ℕ → ShownReply → Type 0
TellsOwners w n reported = (c : Config) (calls : List DeskCall) → IsAfterDesk c w calls → IsOwnerReply c.m (map exchange_of calls) n reported

abbrev pub DeskTellsOwners : Type 0
DeskTellsOwners = (w : DeskValue) (n : ℕ) → TellsOwners w n (owner_reply w n)

-- failed allocations aside, an event is refused if and only if `desk_refusal` returns that refusal
abbrev pub RefusesAsSaid : DeskValue → Event → Type 0
RefusesAsSaid w e = (c : Config) (calls : List DeskCall) → IsAfterDesk c w calls → (why : Refusal) → (desk_reply w e ≡ reply.Refused why) ↔ (desk_refusal w e ≡ Some why)

abbrev pub DeskRefusesAsSaid : Type 0
DeskRefusesAsSaid = (w : DeskValue) (e : Event) → RefusesAsSaid w e

-- if no allocation fails, there is one reply to an event and one desk after it
abbrev pub IsDeskDetermined : Type 0
IsDeskDetermined = (w u v : DeskValue) (e : Event) (a b : ShownReply) → may_by desk_rules w e a u → may_by desk_rules w e b v →
    a ≢ reply.Refused refusal.NoMemory → b ≢ reply.Refused refusal.NoMemory → (a ≡ b) × (u ≡ v)

-- this holds of the exchanges of each run
abbrev pub InEachRun : (List Exchange → Type 0) → Type 0
InEachRun Holds = (terms : RenameTerms) (bounds : SnapBounds) (start : PoolStart) (r : List Exchange) → IsDeskRun terms bounds start r → Holds r
