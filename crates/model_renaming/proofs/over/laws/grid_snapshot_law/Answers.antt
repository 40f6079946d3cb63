use Rattle.model_snapshot.proofs.cited.Following.{all_distinct}
use Rattle.model_renaming.specs.over.GridTies.{grid_places}
use Rattle.model_renaming.specs.lemmas.over.GridProofs.{grid_laws}
use Rattle.model_renaming.proofs.cited.over.GridLaw.{grid_law, fits_grid, grid_alike, empty_grid}
use Rattle.model_renaming.proofs.over.laws.grid_snapshot_law.Goals as goal

pub returns-clause-law : goal.returns-clause-law
returns-clause-law g c = grid_law c.args.world.now

pub returns-clause-distinct : goal.returns-clause-distinct
returns-clause-distinct g c = all_distinct grid_places grid_laws c.args.world.now

pub returns-clause-alike : goal.returns-clause-alike
returns-clause-alike g c = grid_alike

pub returns-clause-fits : goal.returns-clause-fits
returns-clause-fits g c = fits_grid c.args.world.now.most

pub returns-clause-new : goal.returns-clause-new
returns-clause-new g c = empty_grid
