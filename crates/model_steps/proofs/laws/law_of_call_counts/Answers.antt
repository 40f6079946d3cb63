use Rattle.model_steps.proofs.cited.WorldKeeps.{steps_of-push, begun_in-push, outcome_of-push, first_of-none}
use Rattle.model_steps.proofs.laws.law_of_call_counts.Goals as goal

pub returns-clause-steps : goal.returns-clause-steps
returns-clause-steps g c = steps_of-push

pub returns-clause-begun : goal.returns-clause-begun
returns-clause-begun g c = begun_in-push

pub returns-clause-outcome : goal.returns-clause-outcome
returns-clause-outcome g c = outcome_of-push

pub returns-clause-no_outcome : goal.returns-clause-no_outcome
returns-clause-no_outcome g c = first_of-none
