use Rattle.service_host.proofs.FreeingLemmas.{as_hall}
use Rattle.service_host.proofs.freeing.law_of_hosted_releases.Goals as goal

pub returns-clause-alone : goal.returns-clause-alone
returns-clause-alone c = λ w u e r is may. as_hall w.rules w.service e r u.service is may.0

pub returns-clause-journaled : goal.returns-clause-journaled
returns-clause-journaled c = λ w u e r is may. as_hall w.rules w.service.hall e r u.service.hall is may.0
