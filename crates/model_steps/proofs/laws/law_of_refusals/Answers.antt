use Rattle.std.proofs.Common.{sym}
use Rattle.model_steps.proofs.cited.DueLemmas.{ends_once, ended_with_outcome, no_second_end, not_first_refused, outcomes_tell, never_grows}
use Rattle.model_steps.proofs.laws.law_of_refusals.Goals as goal

pub returns-clause-once : goal.returns-clause-once
returns-clause-once g c = ends_once

pub returns-clause-outcome : goal.returns-clause-outcome
returns-clause-outcome g c = λ p r. sym (ended_with_outcome p r)

pub returns-clause-reported : goal.returns-clause-reported
returns-clause-reported g c = outcomes_tell

pub returns-clause-never : goal.returns-clause-never
returns-clause-never g c = never_grows

pub returns-clause-no_second_end : goal.returns-clause-no_second_end
returns-clause-no_second_end g c = no_second_end

pub returns-clause-not_first_refused : goal.returns-clause-not_first_refused
returns-clause-not_first_refused g c = not_first_refused
