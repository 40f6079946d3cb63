use Rattle.service_follow.proofs.Keepers.{stays_determined}
use Rattle.service_follow.proofs.Starts.{later_start}
use Rattle.service_follow.specs.Stays.{stays_of}
use Rattle.service_follow.proofs.laws.law_of_starts.Goals as goal

pub returns : goal.returns
returns c = later_start (λ log config a b. c.law_of_agreement.ensures.states stays_determined (stays_of config) log a b)
