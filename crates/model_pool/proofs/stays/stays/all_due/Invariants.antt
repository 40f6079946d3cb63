use Rattle.std.proofs.Common.{◌≡◌, ◌++◌, drop}
use Rattle.model_pool.specs.stays.Stays.{all_due}
use Rattle.model_pool.proofs.stays.stays.all_due.Given as goal

abbrev pub invariant-loop-stay : goal.invariant-loop-stay
invariant-loop-stay l = all_due l.grace l.tick l.stays ≡ l.due.items ++ all_due l.grace l.tick (drop l.stay-index l.stays)
