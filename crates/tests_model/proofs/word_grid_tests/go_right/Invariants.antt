use Rattle.std.proofs.Common.{◌≡◌}
use Rattle.tests_model.proofs.word_grid_tests.go_right.Given as goal

abbrev pub invariant-loop-before : goal.invariant-loop-before
invariant-loop-before l = l.dealer.words ≡ l.grid
