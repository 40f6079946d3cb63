use Rattle.std.proofs.Common.{sym}
use Rattle.model_splitter.proofs.tree_lemmas.PlacesTied.{tree_of_tied}
use Rattle.model_splitter.proofs.tree_lemmas.NodesMade.{marked_made, made_within}
use Rattle.model_splitter.proofs.tree_lemmas.TreeProved.{tied, trees_proved}
use Rattle.model_splitter.proofs.tree.world_laws.law_of_places.Goals as goal

pub returns : goal.returns
returns g c = record {
  machine = trees_proved;
  consistent = λ memory w first r a. (tied memory w first r a).consistent;
  tree = λ memory w first r a. tree_of_tied memory a.started.tree w r (tied memory w first r a);
  places = λ memory w p first r a. sym ((tied memory w first r a).reported.outcomes p);
  on_the_way = λ memory w p v here first r a. ((tied memory w first r a).clients p v here).task;
  made = λ memory w k first r a. marked_made memory a.started.tree first.0 first.1 w r a.started.empty a.started.few a.run k;
  made_within = λ memory w k first r a. made_within memory a.started.tree first.0 first.1 w r a.started.empty a.started.few a.run k;
  never_ends = λ memory w p v here first r a. ((tied memory w first r a).clients p v here).goes;
}
