use Rattle.std.proofs.Common.{◌≡◌}
use Rattle.tests_model.proofs.names.names_tests.last_of.Given as goal

abbrev pub invariant-loop-identity : goal.invariant-loop-identity
invariant-loop-identity l = l.dealer.names ≡ l.names
