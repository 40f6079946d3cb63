use Rattle.std.proofs.Common.{◌≡◌, ◌≤◌, ◌-◌, length}
use Rattle.service_loop.proofs.Common.{TurnLog, AreShared, seats_of}
use Rattle.service_loop.specs.declared.connection.ConnectionStage.TheVariants as stage
use Rattle.service_loop.proofs.SeatLemmas.{Going}
use Rattle.service_loop.proofs.CallLemmas.{FirstAre, SameOrIs}
use Rattle.service_loop.specs.ConnectionBuffers.{HasTakenAll}
use Rattle.service_loop.specs.Attending.{Hears, acts_in, number_at}
use Rattle.service_loop.proofs.turns.take_turns.Given as goal

abbrev pub invariant-loop-called : goal.invariant-loop-called
invariant-loop-called g l = record {
  so : (log : TurnLog) × Going (seats_of g.S.Stream.left g.S.Stream.gone) g.D.Service.may (λ c. c.stage ≡ stage.Queued) l.fn.service.service l.fn.seats log l.service.service l.seats ×
      Hears (acts_in (number_at l.numbers) log) l.fn.service l.service;
  done : FirstAre (λ c. c.stage ≡ stage.Queued → ⊥) l.called l.ready l.seats;
  all : SameOrIs (λ c. HasTakenAll c.buffers) l.fn.seats l.seats;
  room : AreShared l.shared;
  inside : l.called ≤ length l.ready;
}

abbrev pub decreases-loop-called : goal.decreases-loop-called
decreases-loop-called g l = length l.ready - l.called
