use Rattle.model_splitter.proofs.cited.tree.TreeMemoryLemmas.{tree_memory, tree_empty}
use Rattle.model_splitter.proofs.tree.laws.law_of_tree_memory.Goals as goal

pub returns : goal.returns
returns c = record {
  memory = tree_memory;
  empty = tree_empty;
}
