use Rattle.service_loop.proofs.cited.ReleaseLemmas.{releases_free}
use Rattle.service_loop.proofs.releasing.law_of_releases.Goals as goal

pub returns : goal.returns
returns g c = λ wide competes due w u released id tells_so among. releases_free wide g.D.Service.may competes tells_so due released.turns w.service u.service released.each released.run id among
