use Rattle.std.proofs.Common.{◌≡◌, ◌≤◌, ◌-◌, [], length}
use Rattle.service_loop.proofs.Common.{with_ends, AreShared, seats_of, Gathered, SeatLines, all_lines}
use Rattle.service_loop.specs.declared.connection.ConnectionStage.TheVariants as stage
use Rattle.service_loop.proofs.ReportedLemmas.{Telling}
use Rattle.service_loop.proofs.gathering.gather.Given as goal

abbrev pub invariant-loop-peeked : goal.invariant-loop-peeked
invariant-loop-peeked g l = record {
  gathered : Gathered (seats_of g.S.Stream.left g.S.Stream.gone) l.fn.seats l.seats;
  reported : (reported : SeatLines) × (l.batch.lines.items ≡ with_ends (all_lines reported)) ×
      Telling (seats_of g.S.Stream.left g.S.Stream.gone) (λ c. c.peek) (λ c. c.stage ≡ stage.Queued) l.fn.batch.kind l.ready l.peeked reported l.seats;
  kind : l.batch.kind ≡ l.fn.batch.kind;
  room : AreShared l.shared;
  first : l.peeked ≡ 0 → l.batch.lines.items ≡ [];
  inside : l.peeked ≤ length l.ready;
}

abbrev pub decreases-loop-peeked : goal.decreases-loop-peeked
decreases-loop-peeked g l = length l.ready - l.peeked
