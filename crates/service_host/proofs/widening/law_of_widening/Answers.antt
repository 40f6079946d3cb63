use Rattle.service_host.proofs.WideningLemmas.{widened}
use Rattle.service_host.proofs.widening.law_of_widening.Goals as goal

pub returns : goal.returns
returns c = widened
