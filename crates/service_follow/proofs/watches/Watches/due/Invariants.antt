use Rattle.std.proofs.Common.{◌≡◌, take}
use Rattle.service_follow.specs.Watched.{due_of}
use Rattle.service_follow.proofs.watches.Watches.due.Given as goal

abbrev pub invariant-loop-watch : goal.invariant-loop-watch
invariant-loop-watch l = l.due.items ≡ due_of l.token l.left l.patience l.tick (take l.watch-index l.self.watches.items)
