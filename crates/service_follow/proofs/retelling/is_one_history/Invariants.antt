use Rattle.std.proofs.Common.{◌≡◌, take}
use Rattle.service_follow.proofs.retelling.is_one_history.Given as goal

abbrev pub invariant-loop-place : goal.invariant-loop-place
invariant-loop-place l = take l.place l.other.history ≡ take l.place l.one.history
