use Rattle.std.proofs.Common.{rules}
use Rattle.model_splitter.proofs.tree_lemmas.TreeProved.{tree_law, tree_starts}
use Rattle.model_splitter.proofs.tree.world.TreeWorld.new.Goals as goal

pub returns-clause-after : goal.returns-clause-after
returns-clause-after g c = tree_starts c.args.most c.in_ok-world.world (search rules) (search rules)

pub returns-clause-law : goal.returns-clause-law
returns-clause-law g c = tree_law c.in_ok-world.world
