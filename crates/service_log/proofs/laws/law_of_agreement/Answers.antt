-- The two laws, by what is applied.
use Rattle.service_log.proofs.Shared.{same_states, same_reported}
use Rattle.service_log.proofs.laws.law_of_agreement.Goals as goal

pub returns-clause-states : goal.returns-clause-states
returns-clause-states g c = λ determined. same_states g.M.Machine.applies determined

pub returns-clause-replies : goal.returns-clause-replies
returns-clause-replies g c = λ determined. same_reported g.M.Machine.applies determined
