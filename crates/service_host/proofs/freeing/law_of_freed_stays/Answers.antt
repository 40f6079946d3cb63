use Rattle.service_host.proofs.FreeingLemmas.{frees_all}
use Rattle.service_host.proofs.freeing.law_of_freed_stays.Goals as goal

pub returns : goal.returns
returns g c = λ wide hall so. frees_all wide hall g.D.Service.may so (c.law_of_releases.ensures wide)
