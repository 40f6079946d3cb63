use Rattle.std.proofs.Common.{◌≢◌, subst}
use Rattle.words_machine.specs.grid.Seats.{EndedWalk, place_of, walk_of_run}
use Rattle.words_machine.proofs.grid_lemmas.Places.{distinct_places}
use Rattle.words_machine.proofs.grid.word_grid.WordGrid.meet.Goals as goal

pub returns-clause-distinct : goal.returns-clause-distinct
returns-clause-distinct g c =
    subst (λ (x : EndedWalk). place_of x ≢ place_of c.args.other.now) c.one.view_is
    (subst (λ (x : EndedWalk). place_of (walk_of_run c.one.inside.seat) ≢ place_of x) c.other.view_is (distinct_places _ _ c.one.invariant c.other.invariant c.meet.ensures.met))
