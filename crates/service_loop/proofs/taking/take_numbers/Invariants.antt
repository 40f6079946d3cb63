use Rattle.std.proofs.Common.{◌≡◌}
use Rattle.service_loop.proofs.Common.{TurnLog, AreShared, seats_of}
use Rattle.service_loop.specs.declared.connection.ConnectionStage.TheVariants as stage
use Rattle.service_loop.specs.Attending.{Hears, acts_in, number_at}
use Rattle.service_loop.proofs.TakingLemmas.{Taking}
use Rattle.service_loop.proofs.taking.take_numbers.Given as goal

abbrev pub invariant-loop-key : goal.invariant-loop-key
invariant-loop-key g l = record {
  so : (log : TurnLog) × Taking (seats_of g.S.Stream.left g.S.Stream.gone) l.manner l.ahead l.fn.shared.patient g.D.Service.may (λ c. c.stage ≡ stage.Idle) l.fn.service.service l.fn.seats log l.service.service l.seats ×
      Hears (acts_in (number_at l.numbers) log) l.fn.service l.service;
  room : AreShared l.shared;
  patient : l.shared.patient ≡ l.fn.shared.patient;
}
