use Rattle.service_follow.proofs.LeaseLemmas.{unbroken}
use Rattle.service_follow.proofs.laws.law_of_leases.Goals as goal

pub returns : goal.returns
returns c = unbroken
