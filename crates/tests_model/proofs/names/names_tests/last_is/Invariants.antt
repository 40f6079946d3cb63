use Rattle.std.proofs.Common.{◌≡◌}
use Rattle.tests_model.proofs.names.names_tests.last_is.Given as goal

abbrev pub invariant-loop : goal.invariant-loop
invariant-loop l = l.dealer.names ≡ l.names
