use Rattle.service_loop.proofs.AttendanceLemmas.{keeps_grace}
use Rattle.service_loop.specs.Sendings.{hosted}
use Rattle.service_loop.proofs.laws.law_of_hosted_grace.Goals as goal

pub returns : goal.returns
returns g c = λ manner grace. keeps_grace hosted manner g.D.Service.may g.K.Persist.prefetches g.K.Persist.persists g.K.Persist.waits g.K.Persist.shares g.K.Persist.holds grace c.law_of_grace.ensures
