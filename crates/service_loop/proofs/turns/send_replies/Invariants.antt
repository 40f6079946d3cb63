use Rattle.std.proofs.Common.{◌≡◌}
use Rattle.service_loop.proofs.Common.{EachIs}
use Rattle.service_loop.specs.declared.connection.ConnectionStage.TheVariants as stage
use Rattle.service_loop.specs.Seats.{seats_of}
use Rattle.service_loop.proofs.SeatLemmas.{Sending}
use Rattle.service_loop.proofs.CallLemmas.{Resting}
use Rattle.service_loop.proofs.turns.send_replies.Given as goal

abbrev pub invariant-loop-key : goal.invariant-loop-key
invariant-loop-key g l = record {
  so : Sending (seats_of g.S.Stream.left g.S.Stream.gone) (λ c. c.stage ≡ stage.Taken) l.fn.seats l.seats;
  rest : EachIs (λ c. c.stage ≡ stage.Queued → ⊥) l.called l.fn.seats → Resting (λ c. c.stage ≡ stage.Queued → ⊥) (λ c. c.stage ≡ stage.Idle) l.key-index l.called l.seats;
}
