use Rattle.std.proofs.Common.{◌≡◌, ◌++◌, List, take}
use Rattle.service_loop.specs.TakeQueue.{AllWaitOn, asking_of}
use Rattle.service_loop.specs.declared.take_queue.Waiter.{Waiter}
use Rattle.service_loop.proofs.take_queue.TakeQueue.note.Given as goal

-- who came stands behind who was there
abbrev pub invariant-loop-key : goal.invariant-loop-key
invariant-loop-key g l = record {
  joins : (more : List Waiter) × AllWaitOn l.numbers l.seats more × (l.self.waiters.items ≡ l.fn.self.waiters.items ++ more);
  asks : l.self.asking.items ≡ asking_of (g.K.Persist.holds l.persister l.service) l.seats (take l.key-index l.ready);
}
