use Rattle.service_lock.specs.Serving.{ClerkGoesOn}
use Rattle.service_lock.proofs.server.workers.work.Given as goal

abbrev pub invariant-loop : goal.invariant-loop
invariant-loop g l = record {
  can : (goal.iterator-loop g).can_next l.iterator';
  ends : (goal.iterator-loop g).is_finite l.iterator';
  gone : ClerkGoesOn g.L.LockName.config l.initial.service l.service;
}
