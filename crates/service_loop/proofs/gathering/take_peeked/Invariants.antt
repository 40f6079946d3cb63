use Rattle.std.proofs.Common.{◌≡◌}
use Rattle.service_loop.proofs.Common.{TurnLog, AreShared, seats_of}
use Rattle.service_loop.specs.declared.connection.ConnectionStage.TheVariants as stage
use Rattle.service_loop.proofs.SeatLemmas.{Going}
use Rattle.service_loop.proofs.ReportedLemmas.{Taking}
use Rattle.service_loop.proofs.CallLemmas.{FirstAre}
use Rattle.service_loop.specs.Attending.{Hears, acts_in, number_at}
use Rattle.service_loop.proofs.gathering.take_peeked.Given as goal

abbrev pub invariant-loop-key : goal.invariant-loop-key
invariant-loop-key g l = record {
  so : (log : TurnLog) × Going (seats_of g.S.Stream.left g.S.Stream.gone) g.D.Service.may (λ c. c.stage ≡ stage.Queued) l.fn.service.service l.fn.seats log l.service.service l.seats ×
      Taking (seats_of g.S.Stream.left g.S.Stream.gone) (λ c. c.peek) (λ c. c.stage ≡ stage.Queued) l.called l.fn.seats l.key-index log l.seats ×
      Hears (acts_in (number_at l.numbers) log) l.fn.service l.service;
  done : FirstAre (λ c. c.stage ≡ stage.Queued → ⊥) l.key-index l.called l.seats;
  room : AreShared l.shared;
}
