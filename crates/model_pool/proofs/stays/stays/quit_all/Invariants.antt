use Rattle.std.proofs.Common.{◌≡◌, ◌++◌, take, drop, map}
use Rattle.model_pool.specs.stays.Stays.{quit_by}
use Rattle.model_pool.proofs.stays.stays.quit_all.Given as goal

-- those so far are changed
abbrev pub invariant-loop-stay : goal.invariant-loop-stay
invariant-loop-stay l = l.stays ≡ map (quit_by l.keeper) (take l.stay-index l.initial.stays) ++ drop l.stay-index l.initial.stays
