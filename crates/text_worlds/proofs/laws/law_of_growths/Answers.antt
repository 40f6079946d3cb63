use Rattle.text_worlds.proofs.GrowthLemmas.{left_out, only_tree}
use Rattle.text_worlds.proofs.laws.law_of_growths.Goals as goal

pub returns-clause-left_out : goal.returns-clause-left_out
returns-clause-left_out c = left_out

pub returns-clause-only_tree : goal.returns-clause-only_tree
returns-clause-only_tree c = only_tree
