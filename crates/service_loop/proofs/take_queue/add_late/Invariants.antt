use Rattle.std.proofs.Common.{◌≡◌, ◌++◌, filter, take}
use Rattle.service_loop.specs.TakeQueue.{is_late, seats_of_all}
use Rattle.service_loop.proofs.take_queue.add_late.Given as goal

-- those of so many are added who wait no longer
abbrev pub invariant-loop-waiter : goal.invariant-loop-waiter
invariant-loop-waiter l = l.called.items ≡ l.fn.called.items ++ seats_of_all (filter (is_late l.tick) (take l.waiter-index l.waiters))
