-- how soon a participant is named, whatever the others do, by exchanges alone (the problem and the algorithm, which is
-- wait-free: Attiya et al. 1990; this bound: this project's own)
use Rattle.std.specs.Prelude.{◌≡◌, ℕ, ◌+◌, ◌*◌, ◌<◌, ◌≤◌, ◌⊎◌, Bool, true, false, List, [], ◌∷◌, ◌++◌}
use Rattle.model_steps.specs.declared.refusal.Refusal.TheVariants as refusal
use Rattle.model_snapshot.specs.Snapshot.{SnapBounds}
use Rattle.model_asked.specs.rounds.Rounds.{most_proposals}
use Rattle.model_renaming.specs.Ends.{steps_among}
use Rattle.model_renaming.specs.RenameObject.{RenameTerms}
use Rattle.model_asked.specs.declared.event.Event.{Event}
use Rattle.model_asked.specs.declared.event.Event.TheVariants.{Step}
use Rattle.model_asked.specs.declared.exchange.Exchange.{Exchange}
use Rattle.model_asked.specs.declared.reply.Reply.TheVariants as reply
use Rattle.model_asked.specs.declared.reply.Reply.TheVariants.{Proposed}
use Rattle.model_asked.specs.Replies.{ShownReply}
use Rattle.text_worlds.specs.desk.DeskCalls.{exchange}
use Rattle.text_worlds.specs.desk.DeskRun.{IsDeskRun}
use Rattle.text_worlds.specs.desk.NamedAlone.{IsAmong, HasBegun, WasSpent, HasName, steps_of}
use Rattle.text_worlds.specs.desk.Names.{begun_in}
use Rattle.model_pool.specs.PoolState.{PoolStart}

-- one more, where this is a proposal of anybody
abbrev pub all_more : Event → ShownReply → ℕ → ℕ
all_more (Step q) (Proposed number) n = n + 1
all_more e r n = n

-- how many proposals all have made
abbrev pub all_proposals : List Exchange → ℕ
all_proposals [] = 0
all_proposals (x ∷ r) = all_more x.event x.reply (all_proposals r)

-- a step with this reply is accepted, and neither names its participant nor leaves it spent
abbrev pub goes_on : ShownReply → Bool
goes_on (reply.Named name view) = false
goes_on reply.Spent = false
goes_on (reply.Refused why) = false
goes_on said = true

-- No more have begun than may. If at most b have, all together have made at most as many proposals as b identities
-- make. A participant that has made `steps_among` accepted steps has a name or is spent, whatever the others did. So
-- one that goes on with the last of these exchanges has made fewer. If the round limit is above that number of
-- proposals, or above half of it and one, no participant is spent, and no step is refused for it
pub record EndsSoon (terms : RenameTerms) (bounds : SnapBounds) (r : List Exchange) : Type 0 where
  pub roomy : begun_in r ≤ terms.most
  pub few : (b : ℕ) → begun_in r ≤ b → all_proposals r ≤ most_proposals b
  pub ended : (b p : ℕ) → begun_in r ≤ b → HasBegun p r → steps_among bounds b ≤ steps_of p r → HasName p r ⊎ WasSpent p r
  pub early : (b p : ℕ) (before : List Exchange) (said : ShownReply) → begun_in r ≤ b → before ++ exchange (Step p) said ∷ [] ≡ r → goes_on said ≡ true → steps_of p r < steps_among bounds b
  pub unspent : (b p : ℕ) → begun_in r ≤ b → most_proposals b < terms.limit → WasSpent p r → ⊥
  pub unrefused : (b p : ℕ) → begun_in r ≤ b → most_proposals b < terms.limit → IsAmong (exchange (Step p) (reply.Refused refusal.Spent)) r → ⊥
  pub sure : (b p : ℕ) → begun_in r ≤ b → most_proposals b + 2 < 2 * terms.limit → WasSpent p r → ⊥
  pub sure_unrefused : (b p : ℕ) → begun_in r ≤ b → most_proposals b + 2 < 2 * terms.limit → IsAmong (exchange (Step p) (reply.Refused refusal.Spent)) r → ⊥

-- so in each run
abbrev pub NamesSoonAmong : Type 0
NamesSoonAmong = (terms : RenameTerms) (bounds : SnapBounds) (start : PoolStart) (r : List Exchange) → IsDeskRun terms bounds start r → EndsSoon terms bounds r
