-- Searched for, so that a step without the lock is refused at once.
use Rattle.std.proofs.Common.{rules}
use Rattle.service_lock.proofs.lock.HallLock.step.Goals as goal

pub returns-clause-taken : goal.returns-clause-taken
returns-clause-taken g c = search rules
