use Rattle.std.proofs.Common.{◌≡◌, ◌++◌, None, replicate, vec_capacity}
use Rattle.model_renaming.specs.declared.over.grid_register.GridValue.TheVariants.{Contents}
use Rattle.model_renaming.proofs.over.grid.add_empty.Given as goal

abbrev pub invariant-loop-i : goal.invariant-loop-i
invariant-loop-i g l = (l.segments.items ≡ l.initial.segments.items ++ replicate l._i (Contents None)) × (vec_capacity l.segments ≡ vec_capacity l.initial.segments)
