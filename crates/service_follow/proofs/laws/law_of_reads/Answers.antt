use Rattle.service_follow.proofs.Readings.{hosted_at_end}
use Rattle.service_follow.proofs.laws.law_of_reads.Goals as goal

pub returns : goal.returns
returns g c = λ on s. hosted_at_end on (g.S.Store.stands s) (g.S.Store.lacks s)
