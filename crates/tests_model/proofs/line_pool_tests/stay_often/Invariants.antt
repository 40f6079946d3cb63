use Rattle.std.proofs.Common.{◌≡◌}
use Rattle.tests_model.proofs.line_pool_tests.stay_often.Given as goal

abbrev pub invariant-loop : goal.invariant-loop
invariant-loop l = l.ticket.pool ≡ l.line.table
