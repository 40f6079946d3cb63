use Rattle.std.proofs.Common.{◌≡◌}
use Rattle.service_loop.proofs.Common.{seats_of, Gathered}
use Rattle.service_loop.specs.declared.connection.ConnectionStage.TheVariants as stage
use Rattle.service_loop.proofs.ReportedLemmas.{CalledSo, SeatGivesUp}
use Rattle.service_loop.proofs.CallLemmas.{FirstAre}
use Rattle.service_loop.proofs.gathering.give_up.Given as goal

abbrev pub invariant-loop-key : goal.invariant-loop-key
invariant-loop-key g l = record {
  gathered : Gathered (seats_of g.S.Stream.left g.S.Stream.gone) l.fn.seats l.seats;
  giving : CalledSo (SeatGivesUp (seats_of g.S.Stream.left g.S.Stream.gone) (λ c. c.peek) (λ c. c.stage ≡ stage.Queued)) l.called l.fn.seats l.key-index l.seats;
  rest : FirstAre (λ c. c.stage ≡ stage.Idle) l.key-index l.called l.seats;
}
