use Rattle.service_lock.proofs.lock.HallLock.apply_short.Goals as goal

pub returns : goal.returns
returns g c = c.apply.ensures.taken
