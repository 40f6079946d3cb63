use Rattle.std.proofs.Common.{subst, ap, arith}
use Rattle.model_splitter.proofs.cited.grid.Numbers.{number_low}
use Rattle.words_machine.specs.grid.Law.{WalkSpec}
use Rattle.words_machine.specs.grid.Seats.{EndedWalk}
use Rattle.words_machine.proofs.grid_lemmas.Places.{walk_law, within_more}
use Rattle.words_machine.proofs.grid.word_grid.WordGrid.tally.Goals as goal

pub returns-clause-within : goal.returns-clause-within
returns-clause-within g c =
    let few = c.tally.ensures.counted in
    let entered = ap (λ (e : EndedWalk). e.entered) c.entered.view_is in
    within_more c.args.entered.now c.args.dealer.now.dealt (subst WalkSpec c.entered.view_is (walk_law _ c.entered.invariant)) (omega arith)

pub returns-clause-low : goal.returns-clause-low
returns-clause-low g c =
    let few = c.tally.ensures.counted in
    let entered = ap (λ (e : EndedWalk). e.entered) c.entered.view_is in
    number_low _ _ (within_more c.args.entered.now c.args.dealer.now.dealt (subst WalkSpec c.entered.view_is (walk_law _ c.entered.invariant)) (omega arith))

pub returns-clause-at_most : goal.returns-clause-at_most
returns-clause-at_most g c =
    let few = c.tally.ensures.counted in
    let entered = ap (λ (e : EndedWalk). e.entered) c.entered.view_is in
    let law = (subst WalkSpec c.entered.view_is (walk_law _ c.entered.invariant)).at_most in
    omega arith
