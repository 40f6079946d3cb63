use Rattle.model_renaming.proofs.cited.PlacesLaw.{grid_lawful, grid_begins_alike}
use Rattle.model_renaming.proofs.laws.grid_rename_law.Goals as goal

pub returns-clause-law : goal.returns-clause-law
returns-clause-law g c = grid_lawful c.args.world.now

pub returns-clause-alike : goal.returns-clause-alike
returns-clause-alike g c = grid_begins_alike
