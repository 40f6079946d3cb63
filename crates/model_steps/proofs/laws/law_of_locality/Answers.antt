use Rattle.model_steps.proofs.cited.LocalityLemmas.{answer_alike, answers_alike, stand_alike}
use Rattle.model_steps.proofs.laws.law_of_locality.Goals as goal

pub returns-clause-answer : goal.returns-clause-answer
returns-clause-answer g c = answers_alike

pub returns-clause-after : goal.returns-clause-after
returns-clause-after g c = stand_alike

pub returns-clause-access : goal.returns-clause-access
returns-clause-access g c = answer_alike
