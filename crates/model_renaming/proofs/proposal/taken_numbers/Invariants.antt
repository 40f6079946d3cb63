use Rattle.std.proofs.Common.{◌≡◌, ◌≤◌, ◌<◌, ℕ, false, length, drop, get_or}
use Rattle.model_asked.specs.rounds.Proposals.{is_taken}
use Rattle.model_renaming.proofs.proposal.taken_numbers.Given as goal

-- what the pairs from i on take is marked
abbrev pub invariant-loop-i : goal.invariant-loop-i
invariant-loop-i l = record {
  inside : l.i ≤ length l.pairs;
  wide : length l.taken ≡ 129;
  marked : (n : ℕ) → n < 129 → get_or l.taken n false ≡ is_taken l.id (drop l.i l.pairs) n;
}

abbrev pub decreases-loop-i : goal.decreases-loop-i
decreases-loop-i l = l.i
