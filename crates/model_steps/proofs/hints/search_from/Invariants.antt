use Rattle.std.proofs.Common.{◌≡◌, ◌+◌, ◌-◌, ◌≤◌, drop, length, option_map}
use Rattle.model_steps.specs.Participant.{index_of}
use Rattle.model_steps.proofs.hints.search_from.Given as goal

abbrev pub invariant-loop-at : goal.invariant-loop-at
invariant-loop-at g l = (l.at ≤ length l.participants) × (index_of l.id l.participants ≡ option_map (λ k. l.at + k) (index_of l.id (drop l.at l.participants)))

abbrev pub decreases-loop-at : goal.decreases-loop-at
decreases-loop-at g l = length l.participants - l.at
