use Rattle.std.proofs.Common.{sym, ◌∙◌, arith}
use Rattle.model_splitter.proofs.tree_lemmas.collects.Climbing.{climbed_up}
use Rattle.model_splitter.proofs.tree.collect_walk.after_subtree.Goals as goal

pub loop-at-preserved : goal.loop-at-preserved
loop-at-preserved c = sym (climbed_up c.loop-at.at (omega arith) (omega arith)) ∙ c.loop-at.invariant
