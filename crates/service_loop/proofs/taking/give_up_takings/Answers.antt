use Rattle.std.proofs.Common.{get_or, None}
use Rattle.service_loop.proofs.Common.{seats_of}
use Rattle.service_loop.proofs.GatherLemmas.{gathered_more, gathered_none}
use Rattle.service_loop.proofs.ReportedLemmas.{called_all, called_none, called_on, called_others}
use Rattle.service_loop.proofs.WaitingLemmas.{given_then}
use Rattle.service_loop.specs.Taking.{SeatGivenUp}
use Rattle.service_loop.proofs.taking.give_up_takings.Goals as goal

pub loop-key-init : goal.loop-key-init
loop-key-init g c =
    let on = seats_of g.S.Stream.left g.S.Stream.gone in
    record { gathered = gathered_none on c.args.seats.now; given = called_none (SeatGivenUp on) c.args.called.now c.args.seats.now }

pub loop-key-preserved : goal.loop-key-preserved
loop-key-preserved g c =
    let on = seats_of g.S.Stream.left g.S.Stream.gone in
    let i = c.loop-key.invariant in
    let e = c.give_up_taking_at.ensures in
    let key = get_or c.args.called.now c.loop-key.key-index 0 in
    record {
      gathered = gathered_more on c.args.seats.now c.loop-key.seats c.give_up_taking_at.new.seats i.gathered e.gathered;
      given = called_on (SeatGivenUp on) c.args.called.now c.args.seats.now c.loop-key.key-index c.loop-key.seats c.give_up_taking_at.new.seats i.given
          (λ x up. given_then on x (get_or c.loop-key.seats key None) (get_or c.give_up_taking_at.new.seats key None) up e.given) e.given e.others;
    }

pub returns-clause-given : goal.returns-clause-given
returns-clause-given g c =
    let on = seats_of g.S.Stream.left g.S.Stream.gone in
    let i = c.loop-key.invariant in
    record {
      each = called_all (SeatGivenUp on) c.args.called.now c.args.seats.now c.loop-key.key-index c.loop-key.seats c.loop-key-test.false i.given;
      others = called_others (SeatGivenUp on) c.args.called.now c.args.seats.now c.loop-key.key-index c.loop-key.seats c.loop-key.auto.key-index-end i.given;
    }

pub returns-clause-gathered : goal.returns-clause-gathered
returns-clause-gathered g c = c.loop-key.invariant.gathered
