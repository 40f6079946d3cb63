use Rattle.std.proofs.Common.{◌≡◌, ◌+◌, false}
use Rattle.service_log.specs.Places.{Same}
use Rattle.service_log.specs.Replicas.{GoesOn}
use Rattle.service_log.proofs.replica.Replica.catch_up.Given as goal

-- so many entries were applied, nothing was written, and no replies are left
abbrev pub invariant-loop-passed : goal.invariant-loop-passed
invariant-loop-passed g l = record {
  well : l.self.poisoned ≡ false;
  count : l.self.place ≡ l.fn.self.place + l.passed;
  goes_on : GoesOn g.M.Machine.applies (g.S.Store.stands l.store) l.fn.self l.self;
  silent : g.M.Machine.silent l.replies;
  same : Same (g.S.Store.stands l.fn.store) (g.S.Store.stands l.store);
}
