use Rattle.std.proofs.Common.{◌≡◌, drop}
use Rattle.service_follow.specs.Watched.{since_of}
use Rattle.service_follow.proofs.watches.since_of.Given as goal

-- none of the watches so far is of the stay
abbrev pub invariant-loop-watch : goal.invariant-loop-watch
invariant-loop-watch l = since_of (drop l.watch-index l.watches) l.stay l.tick ≡ since_of l.watches l.stay l.tick
