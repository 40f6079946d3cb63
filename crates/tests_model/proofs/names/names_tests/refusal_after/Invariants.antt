use Rattle.std.proofs.Common.{◌≡◌}
use Rattle.tests_model.proofs.names.names_tests.refusal_after.Given as goal

abbrev pub invariant-loop-other : goal.invariant-loop-other
invariant-loop-other l = l.dealer.names ≡ l.names-inside.machine
