use Rattle.std.proofs.Common.{◌≡◌}
use Rattle.tests_model.proofs.word_grid_tests.visitors_of.Given as goal

abbrev pub invariant-loop : goal.invariant-loop
invariant-loop l = l.dealer.words ≡ l.grid
