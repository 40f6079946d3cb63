use Rattle.std.proofs.Common.{◌≡◌, inl, inr}
use Rattle.service_loop.specs.declared.connection.ConnectionStage.TheVariants as stage
use Rattle.service_loop.specs.Seats.{seats_of}
use Rattle.service_loop.proofs.SeatLemmas.{Sending, sending_none, sending_on}
use Rattle.service_loop.proofs.CallLemmas.{first_none, first_all, resting_on, rests_idle}
use Rattle.service_loop.proofs.turns.send_replies.Goals as goal

pub loop-key-init : goal.loop-key-init
loop-key-init g c = record {
  so = sending_none (seats_of g.S.Stream.left g.S.Stream.gone) (λ x. x.stage ≡ stage.Taken) c.args.seats.now;
  rest = λ before. (before, first_none (λ x. x.stage ≡ stage.Idle) c.args.called.now c.args.seats.now);
}

pub loop-key-preserved : goal.loop-key-preserved
loop-key-preserved g c = record {
  so = elim c.send_at.ensures.sent as (λ _. Sending (seats_of g.S.Stream.left g.S.Stream.gone) (λ x. x.stage ≡ stage.Taken) c.args.seats.now c.send_at.new.seats) [
    | inl same ↦ rw same c.loop-key.invariant.so
    | inr turn ↦ sending_on (seats_of g.S.Stream.left g.S.Stream.gone) (λ x. x.stage ≡ stage.Taken) c.args.seats.now c.loop-key.seats c.send_at.new.seats _ c.loop-key.invariant.so turn
  ];
  rest = λ before. resting_on (λ x. x.stage ≡ stage.Queued → ⊥) (λ x. x.stage ≡ stage.Idle) (λ x is. rests_idle x.stage is) c.loop-key.key-index c.args.called.now c.loop-key.seats c.send_at.new.seats
      c.loop-key-test.true (c.loop-key.invariant.rest before) c.send_at.ensures.rests c.send_at.ensures.others;
}

pub returns-clause-sent : goal.returns-clause-sent
returns-clause-sent g c = c.loop-key.invariant.so.sent

pub returns-clause-rest : goal.returns-clause-rest
returns-clause-rest g c = λ before. first_all (λ x. x.stage ≡ stage.Idle) c.loop-key.key-index c.args.called.now c.loop-key.seats c.loop-key-test.false (c.loop-key.invariant.rest before).1
