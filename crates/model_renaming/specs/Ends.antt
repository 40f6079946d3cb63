-- how soon a participant is named while others step (the problem and the algorithm, which is wait-free: Attiya et al. 1990; this
-- bound: this project's own)
use Rattle.std.specs.Prelude.{◌≡◌, ℕ, ◌+◌, ◌*◌, ◌/◌, ◌<◌, ◌≤◌, ◌⊎◌, true, false, is_some, List}
use Rattle.model_steps.specs.Calls.{Call, steps_of}
use Rattle.model_snapshot.specs.Snapshot.{SnapBounds}
use Rattle.model_asked.specs.rounds.Rounds.{most_proposals}
use Rattle.model_renaming.specs.Reply.{StepReply}
use Rattle.model_renaming.specs.RenameObject.{RenameTerms, RenameObject}

-- the most accepted steps of a participant until it is named, if at most b have begun. They take it to its place, and
-- through two rounds more than half of the proposals that b identities make. A round is an update and a scan
abbrev pub steps_among : SnapBounds → ℕ → ℕ
steps_among bounds b = bounds.placing b + (most_proposals b / 2 + 2) * (2 * bounds.scanning b + 1)

-- No more have begun than may. If at most b have, all of them together have made at most as many proposals as b
-- identities make. A participant that has made `steps_among` accepted steps is named or spent, whatever the others did.
-- If the round limit is above that number of proposals, or above half of it and one more, no participant is spent. Nobody
-- makes more than half of them and one
pub record EndsAmong (terms : RenameTerms) (bounds : SnapBounds) (o : RenameObject) (r : List (Call StepReply)) : Type 0 where
  pub roomy : o.many ≤ terms.most
  pub together : (b : ℕ) → o.many ≤ b → o.last ≤ most_proposals b
  pub each : (p : ℕ) → o.count p ≤ o.last
  pub half : (b p : ℕ) → o.many ≤ b → 2 * o.count p ≤ most_proposals b + 2
  pub ended : (b p : ℕ) → o.many ≤ b → o.begun p ≡ true → steps_among bounds b ≤ steps_of p r → (is_some (o.name p) ≡ true) ⊎ (o.spent p ≡ true)
  pub unspent : (b p : ℕ) → o.many ≤ b → most_proposals b < terms.limit → o.spent p ≡ false
  pub sure : (b p : ℕ) → o.many ≤ b → most_proposals b + 2 < 2 * terms.limit → o.spent p ≡ false
