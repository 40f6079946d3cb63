use Rattle.model_splitter.proofs.cited.StageLemmas.{gone_right, gone_down}
use Rattle.model_splitter.proofs.laws.law_of_ways.Goals as goal

pub returns-clause-right : goal.returns-clause-right
returns-clause-right c = gone_right

pub returns-clause-down : goal.returns-clause-down
returns-clause-down c = gone_down
