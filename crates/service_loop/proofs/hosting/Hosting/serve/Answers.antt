-- A turn of the loop is what was done to the service, and then numbers may be taken.
use Rattle.std.proofs.Common.{ap, subst}
use Rattle.service_loop.specs.Sendings.{HasSent, hosted, sockets}
use Rattle.service_loop.proofs.AttendanceLemmas.{attended_then}
use Rattle.service_loop.proofs.RoundLemmas.{always, ok_holds}
use Rattle.service_loop.proofs.SendingLemmas.{has_sent_then}
use Rattle.service_loop.proofs.hosting.Hosting.serve.Goals as goal

pub returns-in_ok-take_numbers-in-Ok-clause-attended : goal.returns-in_ok-take_numbers-in-Ok-clause-attended
returns-in_ok-take_numbers-in-Ok-clause-attended g c = λ grace.
    always c.settle.result _
    (attended_then hosted c.args.manner g.D.Service.may g.K.Persist.prefetches g.K.Persist.persists g.K.Persist.waits g.K.Persist.shares g.K.Persist.holds grace _ _ _ _ _ _
    (ok_holds c.iterate_all.result _ _ c.in-Ok.is (c.iterate_all.ensures.attended c.args.manner grace)) (c.in_ok-take_numbers-in-Ok.ensures.attended grace))

pub returns-in_ok-take_numbers-in-Ok-clause-sent : goal.returns-in_ok-take_numbers-in-Ok-clause-sent
returns-in_ok-take_numbers-in-Ok-clause-sent g c =
    let before = c.args.self.now.connections.seats.items in
    let after = c.answer.new.self.connections.seats.items in
    let turned = ok_holds c.iterate_all.result _ _ c.in-Ok.is c.iterate_all.ensures.sent in
    let same = ap (λ x. x.seats.items) c.note_lost.ensures in
    always c.settle.result _ (
      after,
      has_sent_then sockets _ _ _ turned
          (subst (λ l. HasSent sockets l after) same (has_sent_then sockets _ _ _ c.in_ok-take_numbers-in-Ok.ensures.sent c.answer.ensures.sent)),
    )
