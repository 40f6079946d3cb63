use Rattle.model_steps.proofs.cited.DueLemmas.{many_begun}
use Rattle.model_steps.proofs.cited.WorldKeeps.{most_kept}
use Rattle.model_steps.proofs.cited.WorldMachineLemmas.{any_world_proved, any_step_leads_on}
use Rattle.model_steps.proofs.laws.law_of_worlds.Goals as goal

pub returns-clause-machine : goal.returns-clause-machine
returns-clause-machine g c = any_world_proved

pub returns-clause-stepped : goal.returns-clause-stepped
returns-clause-stepped g c = any_step_leads_on

pub returns-clause-most : goal.returns-clause-most
returns-clause-most g c = most_kept

pub returns-clause-begun : goal.returns-clause-begun
returns-clause-begun g c = λ program memory shown start last grows w first r a. many_begun program memory shown start first.0 first.1 w r a.run
