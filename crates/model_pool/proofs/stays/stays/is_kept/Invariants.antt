use Rattle.std.proofs.Common.{◌≡◌, drop}
use Rattle.model_pool.specs.stays.Stays.{is_kept}
use Rattle.model_pool.proofs.stays.stays.is_kept.Given as goal

abbrev pub invariant-loop-stay : goal.invariant-loop-stay
invariant-loop-stay l = is_kept l.identity l.stays ≡ is_kept l.identity (drop l.stay-index l.stays)
