use Rattle.std.proofs.Common.{◌≡◌, ◌++◌, take, drop, map}
use Rattle.service_follow.specs.Kept.{heard}
use Rattle.service_follow.proofs.keeping.hear_all.Given as goal

-- the stays so far have heard of it
abbrev pub invariant-loop-stay : goal.invariant-loop-stay
invariant-loop-stay l = l.kept ≡ map (heard l.token l.place) (take l.stay-index l.initial.kept) ++ drop l.stay-index l.initial.kept
