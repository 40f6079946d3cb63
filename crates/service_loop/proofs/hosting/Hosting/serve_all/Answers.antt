-- Stays are ended, and then a turn is taken, in which whoever keeps a stay may be answered or is sent nothing.
use Rattle.service_loop.specs.Sendings.{hosted, sockets}
use Rattle.service_loop.proofs.AttendanceLemmas.{attended_then}
use Rattle.service_loop.proofs.RoundLemmas.{ok_then}
use Rattle.service_loop.proofs.SendingLemmas.{sends_keepers, sends_keepers_of}
use Rattle.service_loop.proofs.hosting.Hosting.serve_all.Goals as goal

pub returns-clause-attended : goal.returns-clause-attended
returns-clause-attended g c =
    let grace = c.args.grace in
    ok_then c.serve.result _ _ (attended_then hosted c.args.manner g.D.Service.may g.K.Persist.prefetches g.K.Persist.persists g.K.Persist.waits g.K.Persist.shares g.K.Persist.holds grace _ _ _ _ _ _ c.in_ok-end_stays.ensures.attended)
    (c.serve.ensures.attended grace)

pub returns-clause-keepers : goal.returns-clause-keepers
returns-clause-keepers g c =
    let k = c.end_stays.new.persister in
    let w = c.end_stays.new.service in
    let may = g.K.Persist.may_answer k c.args.self.now.connections.lease in
    let e = c.in_ok-end_stays.ensures.ends in
    let numbers = c.args.self.now.connections.numbers.items in
    let before = c.args.self.now.connections.seats.items in
    let checked = c.end_stays.new.self.connections.seats.items in
    ok_then c.serve.result _ _ (λ sent. (
      k,
      w,
      checked,
      sent.0,
      e,
      sends_keepers_of sockets may w.stays numbers before checked sent.0 c.in_ok-end_stays.ensures.unsent
          (sends_keepers sockets may w.stays numbers checked sent.0 e.keepers sent.1),
    )) c.serve.ensures.sent
