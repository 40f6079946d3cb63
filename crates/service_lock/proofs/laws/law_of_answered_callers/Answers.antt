use Rattle.service_lock.proofs.Standing.{sound_after, seen_after, taken_by}
use Rattle.service_lock.proofs.laws.law_of_answered_callers.Goals as goal

pub returns-clause-sound : goal.returns-clause-sound
returns-clause-sound c = sound_after

pub returns-clause-seen : goal.returns-clause-seen
returns-clause-seen c = seen_after

pub returns-clause-accepted : goal.returns-clause-accepted
returns-clause-accepted c = taken_by
