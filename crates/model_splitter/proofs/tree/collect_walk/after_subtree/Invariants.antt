use Rattle.std.proofs.Common.{◌≡◌}
use Rattle.model_splitter.specs.tree.CollectWalk.{climbed}
use Rattle.model_splitter.proofs.tree.collect_walk.after_subtree.Given as goal

abbrev pub invariant-loop-at : goal.invariant-loop-at
invariant-loop-at l = climbed l.at ≡ climbed l.place

abbrev pub decreases-loop-at : goal.decreases-loop-at
decreases-loop-at l = l.at
