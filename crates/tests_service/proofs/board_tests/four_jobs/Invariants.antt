use Rattle.std.proofs.Common.{◌≡◌, All}
use Rattle.tests_service.proofs.board_tests.four_jobs.Given as goal

abbrev pub invariant-loop-id : goal.invariant-loop-id
invariant-loop-id g l = record {
  own : l.seat.board ≡ l.board;
  seats : All (λ j. j.seat.board ≡ l.board) l.jobs.items;
}
