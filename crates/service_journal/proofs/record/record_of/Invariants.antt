use Rattle.std.proofs.Common.{◌≡◌}
use Rattle.service_journal.specs.WriteAheads.{record_of_hall, hall_after_first}
use Rattle.service_journal.proofs.record.record_of.Given as goal

abbrev pub invariant-loop-place : goal.invariant-loop-place
invariant-loop-place l = l.lines.items ≡ record_of_hall (hall_after_first l.place l.hall)
