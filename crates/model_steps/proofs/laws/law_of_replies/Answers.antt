use Rattle.model_steps.proofs.cited.StepLemmas.{lacks_or_not, shows_what_is_mapped}
use Rattle.model_steps.proofs.laws.law_of_replies.Goals as goal

pub returns-clause-either : goal.returns-clause-either
returns-clause-either g c = lacks_or_not

pub returns-clause-mapped : goal.returns-clause-mapped
returns-clause-mapped g c = shows_what_is_mapped
