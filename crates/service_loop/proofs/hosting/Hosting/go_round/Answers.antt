-- The persister may go on, then stays are ended, and then a turn is taken.
use Rattle.service_loop.specs.Sendings.{hosted}
use Rattle.service_loop.proofs.AttendanceLemmas.{attended_maybe, attended_then}
use Rattle.service_loop.proofs.hosting.Hosting.go_round.Goals as goal

pub returns-clause-attended : goal.returns-clause-attended
returns-clause-attended g c =
    let may = g.D.Service.may in
    let prefetches = g.K.Persist.prefetches in
    let persists = g.K.Persist.persists in
    let waits = g.K.Persist.waits in
    let shares = g.K.Persist.shares in
    let holds = g.K.Persist.holds in
    let grace = c.args.grace in
    attended_then hosted c.args.manner may prefetches persists waits shares holds grace _ _ _ _ _ _ (attended_maybe hosted c.args.manner may prefetches persists waits shares holds grace _ _ _ _ c.in_ok-tell_tick.ensures)
    c.in_ok-serve_all.ensures.attended
