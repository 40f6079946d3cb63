use Rattle.std.proofs.Common.{refl}
use Rattle.model_splitter.specs.tree.TreeSteps.{tree_steps}
use Rattle.model_splitter.proofs.tree_lemmas.TreeProved.{trees_proved, tree_starts, one_place_reported, not_first_refused}
use Rattle.model_splitter.proofs.tree.world_laws.law_of_tree_calls.Goals as goal

pub returns : goal.returns
returns c = record {
  fresh = λ most few. tree_starts most _ refl few;
  machine = trees_proved tree_steps;
  one_place = one_place_reported;
  not_refused = not_first_refused;
}
