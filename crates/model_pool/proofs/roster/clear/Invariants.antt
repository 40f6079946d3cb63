use Rattle.std.proofs.Common.{◌≡◌, ◌<◌, ℕ, vec_len, slice_index}
use Rattle.model_pool.proofs.roster.clear.Given as goal

abbrev pub invariant-loop-b : goal.invariant-loop-b
invariant-loop-b g l = (vec_len l.heads ≡ vec_len l.initial.heads) × ((k : ℕ) → k < l.b → slice_index l.heads.items k ≡ 0)
