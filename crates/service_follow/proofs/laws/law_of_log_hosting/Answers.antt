use Rattle.service_follow.proofs.ReplyQueues.{hosted}
use Rattle.service_follow.proofs.laws.law_of_log_hosting.Goals as goal

pub returns : goal.returns
returns g c = λ on s. hosted on (g.S.Store.stands s)
