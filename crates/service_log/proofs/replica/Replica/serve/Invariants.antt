use Rattle.std.proofs.Common.{◌≡◌, false}
use Rattle.service_log.specs.Places.{Same}
use Rattle.service_log.specs.Replicas.{GoesOn}
use Rattle.service_log.proofs.Paces.{IsPaced}
use Rattle.service_log.proofs.replica.Replica.serve.Given as goal

-- only entries of others were applied so far, at a pace, and nothing was written
abbrev pub invariant-loop : goal.invariant-loop
invariant-loop g l = record {
  well : l.self.poisoned ≡ false;
  goes_on : GoesOn g.M.Machine.applies (g.S.Store.stands l.store) l.fn.self l.self;
  pace : IsPaced g.S.Store.stands g.S.Store.lacks l.store l.fn.self.place l.counter l.self;
  same : Same (g.S.Store.stands l.fn.store) (g.S.Store.stands l.store);
}
