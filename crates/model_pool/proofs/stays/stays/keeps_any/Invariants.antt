use Rattle.std.proofs.Common.{◌≡◌, drop}
use Rattle.model_pool.specs.stays.Stays.{keeps_any}
use Rattle.model_pool.proofs.stays.stays.keeps_any.Given as goal

abbrev pub invariant-loop-stay : goal.invariant-loop-stay
invariant-loop-stay l = keeps_any l.keeper l.stays ≡ keeps_any l.keeper (drop l.stay-index l.stays)
