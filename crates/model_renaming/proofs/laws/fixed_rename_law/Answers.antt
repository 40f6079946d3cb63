use Rattle.model_renaming.proofs.cited.PlacesLaw.{fixed_lawful}
use Rattle.model_renaming.proofs.laws.fixed_rename_law.Goals as goal

pub returns-clause-law : goal.returns-clause-law
returns-clause-law g c = fixed_lawful c.args.world.now
