use Rattle.std.proofs.Common.{subst, sym}
use Rattle.service_lock.proofs.Common.{SatisfiesSpec}
use Rattle.service_lock.proofs.lock.HallLock.close.Goals as goal

pub returns-then-agrees-clause-lawful : goal.returns-then-agrees-clause-lawful
returns-then-agrees-clause-lawful g c = subst SatisfiesSpec (sym c.closed.ensures.hall) c.agrees.ensures.lawful
