use Rattle.std.proofs.Common.{◌≡◌, ◌+◌, length, vec_len}
use Rattle.service_lock.proofs.matching.with_clerks.Given as goal

abbrev pub invariant-loop-clerk : goal.invariant-loop-clerk
invariant-loop-clerk g l = l.whole.parts + length l.clerk-iterator.rest.items ≡ l.fn.rest.parts + vec_len l.fn.clerks
