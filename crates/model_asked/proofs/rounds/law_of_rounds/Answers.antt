use Rattle.model_asked.proofs.cited.rounds.Whole.{rounds_end, closed_form}
use Rattle.model_asked.proofs.cited.rounds.Sharing.{shared}
use Rattle.model_asked.proofs.rounds.law_of_rounds.Goals as goal

pub returns-clause-end : goal.returns-clause-end
returns-clause-end c = rounds_end

pub returns-clause-closed : goal.returns-clause-closed
returns-clause-closed c = closed_form

pub returns-clause-share : goal.returns-clause-share
returns-clause-share c = shared
