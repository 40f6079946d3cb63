use Rattle.model_steps.proofs.cited.LocalWorldLemmas.{takes_locally}
use Rattle.model_steps.proofs.local_worlds.law_of_local_worlds.Goals as goal

pub returns : goal.returns
returns g c = takes_locally _ _ _
