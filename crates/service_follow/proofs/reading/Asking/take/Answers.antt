-- A read is one of its event.
use Rattle.service_follow.proofs.Readings.{asked_as}
use Rattle.service_follow.proofs.reading.Asking.take.Goals as goal

pub returns : goal.returns
returns c = λ well. asked_as _ _ _ _ c.in-Some.ensures.some (c.ask.ensures well)
