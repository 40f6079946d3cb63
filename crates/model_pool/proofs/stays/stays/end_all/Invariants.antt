use Rattle.std.proofs.Common.{◌≡◌, ◌++◌, take, drop, map}
use Rattle.model_pool.specs.stays.Stays.{ended_by}
use Rattle.model_pool.proofs.stays.stays.end_all.Given as goal

-- those so far are changed
abbrev pub invariant-loop-stay : goal.invariant-loop-stay
invariant-loop-stay l = l.stays ≡ map (ended_by l.keeper l.tick) (take l.stay-index l.initial.stays) ++ drop l.stay-index l.initial.stays
