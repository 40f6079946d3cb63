use Rattle.std.proofs.Common.{◌≡◌, ◌≤◌, ◌-◌, [], length, take}
use Rattle.text_lines.specs.Events.{event_lines}
use Rattle.service_loop.specs.Seats.{seats_of}
use Rattle.service_loop.specs.Taking.{events_of}
use Rattle.service_loop.proofs.taking.gather_takings.Given as goal

abbrev pub invariant-loop-seen : goal.invariant-loop-seen
invariant-loop-seen g l = record {
  few : l.seen ≤ length l.called;
  empty : l.words ≡ [];
  lines : l.batch.lines.items ≡ event_lines (events_of (seats_of g.S.Stream.left g.S.Stream.gone) l.manner l.seats (take l.seen l.called));
}

abbrev pub decreases-loop-seen : goal.decreases-loop-seen
decreases-loop-seen g l = length l.called - l.seen
