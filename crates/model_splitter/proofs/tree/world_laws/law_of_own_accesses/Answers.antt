use Rattle.model_splitter.proofs.tree_lemmas.OwnAccesses.{own_access, own_segment, all_stand}
use Rattle.model_splitter.proofs.tree.world_laws.law_of_own_accesses.Goals as goal

pub returns : goal.returns
returns c = record {
  own = λ who. own_access who who.task;
  segment = λ who place value. own_segment who who.task place value;
  stands = all_stand;
}
