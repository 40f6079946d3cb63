use Rattle.std.proofs.Common.{◌≡◌, ◌++◌, take}
use Rattle.service_loop.specs.TakeQueue.{seats_of_all}
use Rattle.service_loop.proofs.take_queue.add_seats.Given as goal

-- so many are added
abbrev pub invariant-loop-waiter : goal.invariant-loop-waiter
invariant-loop-waiter l = l.called.items ≡ l.fn.called.items ++ seats_of_all (take l.waiter-index l.waiters)
