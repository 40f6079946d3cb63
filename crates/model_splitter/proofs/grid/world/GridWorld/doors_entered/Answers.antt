use Rattle.std.proofs.Common.{◌≡◌, ℕ, ap, subst, ◌∙◌}
use Rattle.model_splitter.proofs.grid_lemmas.Common.{Registers, was_entered, count_to}
use Rattle.model_splitter.proofs.cited.grid.GridTied.{grid_always}
use Rattle.model_splitter.proofs.grid_lemmas.EnteredDoors.{written_entered}
use Rattle.model_splitter.proofs.grid.world.GridWorld.doors_entered.Goals as goal

pub returns-clause-entered : goal.returns-clause-entered
returns-clause-entered g c = written_entered c.args.self.now

pub returns-clause-within : goal.returns-clause-within
returns-clause-within g c = λ most r a k entered. (grid_always c.args.self.now most r a).entered k ((written_entered c.args.self.now most r a k).1 entered)

pub returns-clause-few : goal.returns-clause-few
returns-clause-few g c = λ most r a.
    let same : c.memory-memory.result.now ≡ c.args.self.now.memory = c.memory-memory.ensures ∙ ap (λ w. w.memory) c.self.view_is in
    let counted : c.loop-k.entered ≡ count_to (was_entered c.args.self.now.memory) c.loop-k.k = subst (λ (m : Registers ℕ). c.loop-k.entered ≡ count_to (was_entered m) c.loop-k.k) same c.loop-k.invariant.counted in
    rw counted ((grid_always c.args.self.now most r a).few_entered c.loop-k.k)
