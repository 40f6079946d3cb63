use Rattle.words_machine.specs.grid.Seats.{walk_of_run}
use Rattle.words_machine.proofs.grid_lemmas.Places.{walk_law, alone_at_corner}
use Rattle.words_machine.proofs.grid.word_grid.WordGrid.enter.Goals as goal

pub returns-clause-law : goal.returns-clause-law
returns-clause-law g c = walk_law _ c.enter-seat.ensures.law

pub returns-clause-alone : goal.returns-clause-alone
returns-clause-alone g c = alone_at_corner (walk_of_run c.enter-seat.result) (walk_law _ c.enter-seat.ensures.law)
