use Rattle.model_steps.proofs.cited.ViewLemmas.{IsRising-inserted, value_of-inserted, length-inserted, equal_values, among_identities}
use Rattle.model_steps.proofs.laws.law_of_views.Goals as goal

pub returns-clause-rising : goal.returns-clause-rising
returns-clause-rising c = IsRising-inserted

pub returns-clause-value : goal.returns-clause-value
returns-clause-value c = λ q xs new. value_of-inserted q xs new

pub returns-clause-length : goal.returns-clause-length
returns-clause-length c = length-inserted

pub returns-clause-equal : goal.returns-clause-equal
returns-clause-equal c = equal_values

pub returns-clause-few : goal.returns-clause-few
returns-clause-few c = among_identities
