use Rattle.model_steps.proofs.cited.StepLemmas.{going_answer, going_after, most_stepped, lacks_none}
use Rattle.model_steps.proofs.laws.law_of_steps.Goals as goal

pub returns-clause-answer : goal.returns-clause-answer
returns-clause-answer g c = going_answer

pub returns-clause-after : goal.returns-clause-after
returns-clause-after g c = going_after

pub returns-clause-most : goal.returns-clause-most
returns-clause-most g c = most_stepped

pub returns-clause-lacks_none : goal.returns-clause-lacks_none
returns-clause-lacks_none g c = λ program memory shown. lacks_none program memory shown
