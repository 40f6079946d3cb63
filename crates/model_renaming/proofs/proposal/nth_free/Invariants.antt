use Rattle.std.proofs.Common.{◌≡◌, ◌+◌, ℕ, suc, ◌-◌, ◌<◌, ◌⊎◌, length}
use Rattle.model_asked.specs.rounds.Proposals.{is_taken, free_up_to}
use Rattle.model_renaming.proofs.proposal.nth_free.Given as goal

abbrev pub invariant-loop-left : goal.invariant-loop-left
invariant-loop-left l = record {
  count : l.left + free_up_to (is_taken l.id l.pairs) l.at ≡ l.rank;
  least : (l.at ≡ 0) ⊎ ((m : ℕ) × (l.at ≡ suc m) × (free_up_to (is_taken l.id l.pairs) m < l.rank));
}

abbrev pub decreases-loop-left : goal.decreases-loop-left
decreases-loop-left l = l.rank + length l.pairs - l.at
