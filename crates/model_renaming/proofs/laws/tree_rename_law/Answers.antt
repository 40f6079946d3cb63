use Rattle.model_renaming.proofs.cited.PlacesLaw.{tree_lawful, tree_lacks, tree_begins_alike}
use Rattle.model_renaming.proofs.laws.tree_rename_law.Goals as goal

pub returns-clause-law : goal.returns-clause-law
returns-clause-law g c = tree_lawful c.args.world.now

pub returns-clause-makes : goal.returns-clause-makes
returns-clause-makes g c = tree_lacks c.args.world.now

pub returns-clause-alike : goal.returns-clause-alike
returns-clause-alike g c = tree_begins_alike
