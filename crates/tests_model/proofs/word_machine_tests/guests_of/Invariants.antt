use Rattle.std.proofs.Common.{◌≡◌}
use Rattle.tests_model.proofs.word_machine_tests.guests_of.Given as goal

abbrev pub invariant-loop : goal.invariant-loop
invariant-loop l = l.dealer.words ≡ l.splitter
