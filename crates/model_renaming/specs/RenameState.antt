-- what a contract sees of a renaming world
use Rattle.std.specs.Prelude.{◌≡◌, ◌≤◌, ℕ, List, length}
use Rattle.model_steps.specs.declared.participant.Participant.{Participant}
use Rattle.model_steps.specs.Participant.{AreDistinct, identities}
use Rattle.model_snapshot.specs.SnapWorld.{SnapState}
use Rattle.model_renaming.specs.declared.round.Round.{Round}

-- the snapshot object, each one's round, and the round limit
pub record RenameState (S U K : Type 0) : Type 0 where
  pub snap : SnapState S U K
  pub rounds : List (Participant Round)
  pub limit : ℕ

-- There is room for the rounds of all, and for their proposals in a view. Each participant of the snapshot object has a
-- round, in the same order, and no identity occurs twice
abbrev pub HasRoom : {S U K : Type 0} → ℕ → SnapState S U K → List (Participant Round) → Type 0
HasRoom capacity snap rounds = (snap.most ≤ capacity) × (snap.most ≤ 64) × (identities rounds ≡ identities snap.participants) × (length rounds ≤ snap.most) × AreDistinct rounds
