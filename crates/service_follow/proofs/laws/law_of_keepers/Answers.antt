use Rattle.service_follow.proofs.Keepers.{stays_determined}
use Rattle.service_follow.specs.Stays.{stays_of}
use Rattle.service_follow.proofs.laws.law_of_keepers.Goals as goal

pub returns-clause-determined : goal.returns-clause-determined
returns-clause-determined c = stays_determined

pub returns-clause-states : goal.returns-clause-states
returns-clause-states c = λ config log a b. c.law_of_agreement.ensures.states stays_determined (stays_of config) log a b
