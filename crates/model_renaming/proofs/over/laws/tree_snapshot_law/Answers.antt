use Rattle.model_snapshot.proofs.cited.Following.{all_distinct}
use Rattle.model_snapshot.proofs.cited.SureSteps.{lacks_on_way}
use Rattle.model_renaming.specs.over.TreeTies.{tree_places}
use Rattle.model_renaming.specs.lemmas.over.TreeProofs.{tree_laws}
use Rattle.model_renaming.proofs.over_lemmas.TreeLaw.{tree_law, fits_tree, tree_nodes, tree_makes, tree_alike, is_new}
use Rattle.model_renaming.proofs.over.laws.tree_snapshot_law.Goals as goal

pub returns-clause-law : goal.returns-clause-law
returns-clause-law g c = tree_law c.args.world.now

pub returns-clause-distinct : goal.returns-clause-distinct
returns-clause-distinct g c = all_distinct tree_places tree_laws c.args.world.now

pub returns-clause-nodes : goal.returns-clause-nodes
returns-clause-nodes g c = tree_nodes c.args.world.now

pub returns-clause-ample : goal.returns-clause-ample
returns-clause-ample g c = lacks_on_way tree_places tree_laws c.args.world.now

pub returns-clause-makes : goal.returns-clause-makes
returns-clause-makes g c = λ id new. tree_makes c.args.world.now new id

pub returns-clause-alike : goal.returns-clause-alike
returns-clause-alike g c = tree_alike

pub returns-clause-fits : goal.returns-clause-fits
returns-clause-fits g c = fits_tree c.args.world.now.most

pub returns-clause-new : goal.returns-clause-new
returns-clause-new g c = is_new
