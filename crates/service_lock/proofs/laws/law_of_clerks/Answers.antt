use Rattle.service_lock.proofs.Keepers.{kept}
use Rattle.service_lock.proofs.laws.law_of_clerks.Goals as goal

pub returns : goal.returns
returns c = record { kept = kept }
