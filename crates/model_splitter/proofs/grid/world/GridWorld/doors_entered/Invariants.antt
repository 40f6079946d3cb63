use Rattle.std.proofs.Common.{◌≡◌, ◌≤◌}
use Rattle.model_splitter.proofs.grid_lemmas.Common.{was_entered, count_to}
use Rattle.model_splitter.proofs.grid.world.GridWorld.doors_entered.Given as goal

abbrev pub invariant-loop-k : goal.invariant-loop-k
invariant-loop-k g l = record { counted : l.entered ≡ count_to (was_entered l.memory) l.k; few : l.entered ≤ l.k }
