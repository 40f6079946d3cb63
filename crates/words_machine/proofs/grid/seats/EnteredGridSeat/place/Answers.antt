use Rattle.std.proofs.Common.{subst}
use Rattle.words_machine.specs.grid.Law.{WalkSpec}
use Rattle.words_machine.proofs.grid_lemmas.Places.{walk_law}
use Rattle.words_machine.proofs.grid.seats.EnteredGridSeat.place.Goals as goal

pub returns-clause-law : goal.returns-clause-law
returns-clause-law c = subst WalkSpec c.self.view_is (walk_law _ c.self.invariant)
