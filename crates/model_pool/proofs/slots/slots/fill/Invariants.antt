use Rattle.std.proofs.Common.{◌≡◌, ◌++◌, vec_capacity, replicate}
use Rattle.model_pool.proofs.slots.slots.fill.Given as goal

abbrev pub invariant-loop-i : goal.invariant-loop-i
invariant-loop-i g l = (l.values.items ≡ l.initial.values.items ++ replicate l._i l.value) × (vec_capacity l.values ≡ vec_capacity l.initial.values)
