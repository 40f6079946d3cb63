use Rattle.model_snapshot.proofs.cited.FixedLaw.{fixed_law, fits_row, empty_row}
use Rattle.model_snapshot.proofs.world_laws.snapshot_law.Goals as goal

pub returns-clause-law : goal.returns-clause-law
returns-clause-law g c = fixed_law c.args.world.now

pub returns-clause-fits : goal.returns-clause-fits
returns-clause-fits g c = fits_row c.args.world.now.most

pub returns-clause-new : goal.returns-clause-new
returns-clause-new g c = empty_row
