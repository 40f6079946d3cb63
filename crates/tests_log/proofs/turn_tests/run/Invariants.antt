use Rattle.service_loop.specs.SharedBuffers.{AreShared}
use Rattle.tests_log.proofs.turn_tests.run.Given as goal

abbrev pub invariant-loop-turns : goal.invariant-loop-turns
invariant-loop-turns l = AreShared l.room
