use Rattle.std.proofs.Common.{[]}
use Rattle.service_follow.proofs.Agrees.{determined}
use Rattle.service_hall.specs.Halls.{hall_of}
use Rattle.service_follow.proofs.laws.law_of_halls.Goals as goal

pub returns-clause-determined : goal.returns-clause-determined
returns-clause-determined c = determined

pub returns-clause-states : goal.returns-clause-states
returns-clause-states c = λ config log a b. c.law_of_agreement.ensures.states determined (hall_of config []) log a b
