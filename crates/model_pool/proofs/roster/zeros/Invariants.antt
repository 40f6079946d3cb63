use Rattle.std.proofs.Common.{◌≡◌, vec_capacity, replicate}
use Rattle.model_pool.proofs.roster.zeros.Given as goal

abbrev pub invariant-loop-i : goal.invariant-loop-i
invariant-loop-i g l = (l.xs.items ≡ replicate l._i 0) × (vec_capacity l.xs ≡ l.n)
