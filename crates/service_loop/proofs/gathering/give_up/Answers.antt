use Rattle.std.proofs.Common.{◌≡◌, get_or, None}
use Rattle.service_loop.specs.declared.connection.ConnectionStage.TheVariants as stage
use Rattle.service_loop.specs.Seats.{seats_of}
use Rattle.service_loop.proofs.GatherLemmas.{gathered_none, gathered_more}
use Rattle.service_loop.proofs.ReportedLemmas.{SeatGivesUp, called_all, called_none, called_on, gives_up_still}
use Rattle.service_loop.proofs.CallLemmas.{first_none, first_on, first_all}
use Rattle.service_loop.proofs.gathering.give_up.Goals as goal

pub loop-key-init : goal.loop-key-init
loop-key-init g c =
    let on = seats_of g.S.Stream.left g.S.Stream.gone in
    record {
      gathered = gathered_none on c.args.seats.now;
      giving = called_none (SeatGivesUp on (λ x. x.peek) (λ x. x.stage ≡ stage.Queued)) c.args.called.now c.args.seats.now;
      rest = first_none (λ x. x.stage ≡ stage.Idle) c.args.called.now c.args.seats.now;
    }

pub loop-key-preserved : goal.loop-key-preserved
loop-key-preserved g c =
    let on = seats_of g.S.Stream.left g.S.Stream.gone in
    let i = c.loop-key.invariant in
    let e = c.give_up_at.ensures in
    let key = get_or c.args.called.now c.loop-key.key-index 0 in
    record {
      gathered = gathered_more on c.args.seats.now c.loop-key.seats c.give_up_at.new.seats i.gathered e.gathered;
      giving = called_on (SeatGivesUp on (λ x. x.peek) (λ x. x.stage ≡ stage.Queued)) c.args.called.now c.args.seats.now c.loop-key.key-index c.loop-key.seats c.give_up_at.new.seats i.giving
          (λ x. gives_up_still on (λ y. y.peek) (λ y. y.stage ≡ stage.Queued) x (get_or c.loop-key.seats key None) (get_or c.give_up_at.new.seats key None) (e.gathered.each key)) e.reported e.others;
      rest = first_on (λ x. x.stage ≡ stage.Idle) c.loop-key.key-index c.args.called.now c.loop-key.seats c.give_up_at.new.seats i.rest e.rests e.others;
    }

pub returns-clause-reported : goal.returns-clause-reported
returns-clause-reported g c =
    called_all (SeatGivesUp (seats_of g.S.Stream.left g.S.Stream.gone) (λ x. x.peek) (λ x. x.stage ≡ stage.Queued)) c.args.called.now c.args.seats.now c.loop-key.key-index c.loop-key.seats c.loop-key-test.false c.loop-key.invariant.giving

pub returns-clause-rest : goal.returns-clause-rest
returns-clause-rest g c = first_all (λ x. x.stage ≡ stage.Idle) c.loop-key.key-index c.args.called.now c.loop-key.seats c.loop-key-test.false c.loop-key.invariant.rest

pub returns-clause-gathered : goal.returns-clause-gathered
returns-clause-gathered g c = c.loop-key.invariant.gathered
