use Rattle.std.proofs.Common.{◌≡◌, map, take}
use Rattle.service_follow.specs.Watched.{watched}
use Rattle.service_follow.proofs.watches.Watches.look.Given as goal

abbrev pub invariant-loop-stay : goal.invariant-loop-stay
invariant-loop-stay l = l.watches.items ≡ map (watched l.tick l.self.watches.items) (take l.stay-index l.kept)
