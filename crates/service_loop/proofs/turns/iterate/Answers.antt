use Rattle.std.proofs.Common.{sym}
use Rattle.std.proofs.lemmas.List.{length-take-le}
use Rattle.service_loop.proofs.AttendedLemmas.{hears_inside}
use Rattle.service_loop.proofs.Common.{seats_of}
use Rattle.service_loop.proofs.GatherLemmas.{gathered_none, none_sent_peeked}
use Rattle.service_loop.proofs.RoundLemmas.{always_wrong, owes_none}
use Rattle.service_loop.proofs.turns.iterate.Goals as goal

pub slice_bounds-send_replies-end : goal.slice_bounds-send_replies-end
slice_bounds-send_replies-end g c = sym (length-take-le c.take_turns-called.result c.args.ready.now c.take_turns-called.ensures.called.0)

pub take_turns-called-requires : goal.take_turns-called-requires
take_turns-called-requires g c = record { knows = c.requires.knows; room = c.requires.room }

pub returns-clause-turned : goal.returns-clause-turned
returns-clause-turned g c =
    let t = c.take_turns-called.ensures.taken in (
      record {
        turn = record { log = t.0; reported = c.take_turns-called.new.service.service; between = c.take_turns-called.new.seats; taken = t.1; kept = c.in_ok-persist.ensures; sent = c.send_replies.ensures.sent };
        served = c.take_turns-called.ensures.served;
      },
      hears_inside c.args.service.now c.take_turns-called.new.service _ t.2,
    )

pub returns-clause-unsent : goal.returns-clause-unsent
returns-clause-unsent g c = tt

pub returns-clause-called : goal.returns-clause-called
returns-clause-called g c = c.take_turns-called.ensures.called

pub returns-clause-rest : goal.returns-clause-rest
returns-clause-rest g c = c.send_replies.ensures.rest c.take_turns-called.ensures.done

pub returns-clause-room : goal.returns-clause-room
returns-clause-room g c = c.take_turns-called.ensures.room

pub returns-in_err-persist : goal.returns-in_err-persist
returns-in_err-persist g c =
    let on = seats_of g.S.Stream.left g.S.Stream.gone in
    let wrong = c.from_residual.ensures.0 in
    let t = c.take_turns-called.ensures.taken in
    record {
      turned = owes_none c.from_residual.result _ wrong;
      unsent = always_wrong c.from_residual.result _
          (none_sent_peeked on t.0 c.args.seats.now c.args.seats.now c.take_turns-called.new.seats (gathered_none on c.args.seats.now) t.1.each);
      called = owes_none c.from_residual.result _ wrong;
      rest = owes_none c.from_residual.result _ wrong;
      room = c.take_turns-called.ensures.room;
    }
