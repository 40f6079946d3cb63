use Rattle.service_loop.specs.Seats.{NoneSent, seats_of}
use Rattle.service_loop.proofs.RoundLemmas.{always_wrong}
use Rattle.service_loop.proofs.TakingLemmas.{numbers_unsent}
use Rattle.service_loop.proofs.AttendedLemmas.{hears_inside}
use Rattle.service_loop.proofs.taking.serve_takings.Goals as goal

pub returns-clause-turned : goal.returns-clause-turned
returns-clause-turned g c =
    let t = c.take_numbers.ensures.taken in (
      record { log = t.0; reported = c.take_numbers.new.service.service; between = c.take_numbers.new.seats; taken = t.1; kept = c.in_ok-persist.ensures; sent = c.send_replies.ensures.sent },
      hears_inside c.args.service.now c.take_numbers.new.service _ t.2,
    )

pub returns-in_err-persist-clause-unsent : goal.returns-in_err-persist-clause-unsent
returns-in_err-persist-clause-unsent g c =
    let on = seats_of g.S.Stream.left g.S.Stream.gone in
    let t = c.take_numbers.ensures.taken in
    always_wrong c.from_residual.result (NoneSent on c.args.seats.now c.take_numbers.new.seats)
    (numbers_unsent on c.args.manner c.args.ahead c.args.shared.now.patient g.D.Service.may c.args.service.now.service c.take_numbers.new.service.service c.args.seats.now c.take_numbers.new.seats t.0 t.1)
