use Rattle.std.proofs.Common.{◌≡◌, vec_capacity, replicate}
use Rattle.model_steps.proofs.memory.filled.Given as goal

abbrev pub invariant-loop-i : goal.invariant-loop-i
invariant-loop-i g l = (l.xs.items ≡ replicate l._i l.x) × (vec_capacity l.xs ≡ l.n)
