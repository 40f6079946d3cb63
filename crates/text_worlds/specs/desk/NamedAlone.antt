-- how soon a participant is named in a solo run, by exchanges alone (this project's profile)
use Rattle.std.specs.Prelude.{◌≡◌, ℕ, ◌+◌, ◌<◌, ◌≤◌, ◌==◌, ◌&&◌, not, false, if◌then◌else◌, ◌⊎◌, List, [], ◌∷◌, ◌++◌}
use Rattle.model_snapshot.specs.Snapshot.{SnapBounds}
use Rattle.model_renaming.specs.Alone.{steps_alone}
use Rattle.model_renaming.specs.RenameObject.{RenameTerms}
use Rattle.model_asked.specs.declared.event.Event.{Event}
use Rattle.model_asked.specs.declared.event.Event.TheVariants.{Begin, Step}
use Rattle.model_asked.specs.declared.exchange.Exchange.{Exchange}
use Rattle.model_asked.specs.declared.reply.Reply.TheVariants.{Ok, Proposed, Spent}
use Rattle.text_worlds.specs.desk.DeskCalls.{exchange}
use Rattle.text_worlds.specs.desk.DeskRun.{IsDeskRun}
use Rattle.text_worlds.specs.desk.Names.{WasNamed}
use Rattle.model_asked.specs.Replies.{ShownReply, is_refusal}
use Rattle.model_pool.specs.PoolState.{PoolStart}

-- this exchange is among these
abbrev pub IsAmong : Exchange → List Exchange → Type 0
IsAmong x [] = ⊥
IsAmong x (y ∷ r) = (y ≡ x) ⊎ IsAmong x r

-- p has begun
abbrev pub HasBegun : ℕ → List Exchange → Type 0
HasBegun p r = IsAmong (exchange (Begin p) Ok) r

-- p has used up its rounds
abbrev pub WasSpent : ℕ → List Exchange → Type 0
WasSpent p r = IsAmong (exchange (Step p) Spent) r

-- one more, where this is a proposal of p
abbrev pub proposed_more : ℕ → Event → ShownReply → ℕ → ℕ
proposed_more p (Step q) (Proposed number) n = if p == q then n + 1 else n
proposed_more p e r n = n

-- how many proposals p has made
abbrev pub proposals_of : ℕ → List Exchange → ℕ
proposals_of p [] = 0
proposals_of p (x ∷ r) = proposed_more p x.event x.reply (proposals_of p r)

-- one more, where this is an accepted step of p
abbrev pub stepped_more : ℕ → Event → ShownReply → ℕ → ℕ
stepped_more p (Step q) r n = if q == p && not (is_refusal r) then n + 1 else n
stepped_more p e r n = n

-- how many accepted steps p has made
abbrev pub steps_of : ℕ → List Exchange → ℕ
steps_of p [] = 0
steps_of p (x ∷ r) = stepped_more p x.event x.reply (steps_of p r)

-- this is no accepted step of another than p
abbrev pub LeavesAlone : ℕ → Event → ShownReply → Type 0
LeavesAlone p (Step q) r = is_refusal r ≡ false → q ≡ p
LeavesAlone p e r = Unit {0}

-- none of these is. Others may begin, and compete for the pool
abbrev pub StepsAlone : ℕ → List Exchange → Type 0
StepsAlone p [] = Unit {0}
StepsAlone p (x ∷ r) = LeavesAlone p x.event x.reply × StepsAlone p r

-- p has begun, is neither named nor spent, and has two proposals left
pub record HasTwoLeft (limit p : ℕ) (r : List Exchange) : Type 0 where
  pub begun : HasBegun p r
  pub unnamed : (n : ℕ) → WasNamed p n r → ⊥
  pub unspent : WasSpent p r → ⊥
  pub left : proposals_of p r + 2 ≤ limit

-- p has a name
abbrev pub HasName : ℕ → List Exchange → Type 0
HasName p r = (n : ℕ) × WasNamed p n r

-- p has a name. Or it is not spent, so that its steps go on, and it has made fewer than `most` after the cut
abbrev pub IsNamedWithin : ℕ → ℕ → List Exchange → List Exchange → Type 0
IsNamedWithin most p before more = HasName p (before ++ more) ⊎ ((WasSpent p (before ++ more) → ⊥) × (steps_of p more < most))

-- cut each run in two at any point. A participant that has two proposals left there, and then runs solo, is named at
-- its `steps_alone`-th step after the cut, or earlier
abbrev pub NamesSoonAlone : Type 0
NamesSoonAlone = (terms : RenameTerms) (bounds : SnapBounds) (start : PoolStart) (before more : List Exchange) → IsDeskRun terms bounds start (before ++ more) →
    (p : ℕ) → HasTwoLeft terms.limit p before → StepsAlone p more → IsNamedWithin (steps_alone bounds) p before more
