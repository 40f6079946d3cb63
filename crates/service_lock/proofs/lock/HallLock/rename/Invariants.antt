use Rattle.std.proofs.Common.{◌≡◌}
use Rattle.service_lock.specs.Renamed.{IsStepped}
use Rattle.service_lock.proofs.Ending.{GoesOnSo}
use Rattle.service_lock.proofs.lock.HallLock.rename.Given as goal

abbrev pub invariant-loop-turn : goal.invariant-loop-turn
invariant-loop-turn g l = record {
  same : l.session.id ≡ l.initial.session.id;
  stepped : IsStepped g.L.LockName.config l.initial.session.id l.turn l.initial.session.clerk l.session.clerk;
  on : GoesOnSo g.L.LockName.config l.initial.session.id l.turn l.session.clerk;
}
