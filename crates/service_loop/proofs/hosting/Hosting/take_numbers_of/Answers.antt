-- That numbers were taken is what a server does to its service and its persister.
use Rattle.std.proofs.Common.{◌∙◌, sym, true, false}
use Rattle.service_loop.specs.Sendings.{hosted, sockets}
use Rattle.service_loop.proofs.SendingLemmas.{has_sent_back, has_sent_gathered, has_sent_takings, sent_called}
use Rattle.service_loop.proofs.AttendanceLemmas.{attended_lost, attended_takings, attended_takings_prefetched}
use Rattle.service_loop.proofs.hosting.Hosting.take_numbers_of.Goals as goal

pub returns-in_ok-serve_takings-in-None-clause-attended : goal.returns-in_ok-serve_takings-in-None-clause-attended
returns-in_ok-serve_takings-in-None-clause-attended g c = λ grace.
    let t = c.in_ok-serve_takings-in-None.ensures.turned in
    attended_takings hosted c.args.manner g.D.Service.may g.K.Persist.prefetches g.K.Persist.persists g.K.Persist.waits g.K.Persist.shares g.K.Persist.holds grace false _ _ _ c.all-numbers.ensures.own _ _ _ _ _ _ t.0 t.1

pub returns-in-Some-clause-attended : goal.returns-in-Some-clause-attended
returns-in-Some-clause-attended g c = λ grace.
    let may = g.D.Service.may in
    let prefetches = g.K.Persist.prefetches in
    let persists = g.K.Persist.persists in
    let waits = g.K.Persist.waits in
    let e = c.prefetch_takings.ensures in
    sent_called c.prefetch_takings.result _
    (λ n is. let t = e.served n is in
    attended_takings_prefetched hosted c.args.manner may prefetches persists waits g.K.Persist.shares g.K.Persist.holds grace true _ _ _ c.all-numbers.ensures.own _ _ _ _ _ _ _ t.0 t.1)
    (λ n is. attended_lost hosted c.args.manner may prefetches persists waits g.K.Persist.shares g.K.Persist.holds grace c.prefetch_takings.new.batch.kind c.prefetch_takings.new.batch.lines.items _ _ _ _ (e.lost n is))

pub returns-in_ok-serve_takings-in-None-clause-sent : goal.returns-in_ok-serve_takings-in-None-clause-sent
returns-in_ok-serve_takings-in-None-clause-sent g c =
    let t = c.in_ok-serve_takings-in-None.ensures.turned.0 in
    has_sent_back sockets _ _ _ c.serve_takings.new.seats c.deref_mut.ensures.value (sym c.deref_mut.ensures.len) (t.sent.many ∙ t.taken.many) (has_sent_takings sockets g.D.Service.may g.K.Persist.persists c.args.manner false _ _ _ _ _ _ _ t)

pub returns-in-Some-clause-sent : goal.returns-in-Some-clause-sent
returns-in-Some-clause-sent g c =
    sent_called c.prefetch_takings.result _
    (λ n is. let t = (c.prefetch_takings.ensures.served n is).0.turn in
    has_sent_back sockets _ _ _ c.prefetch_takings.new.seats c.deref_mut-in-Some.ensures.value (sym c.deref_mut-in-Some.ensures.len) (t.sent.many ∙ t.taken.many) (has_sent_takings sockets g.D.Service.may g.K.Persist.persists c.args.manner true _ _ _ _ _ _ _ t))
    (λ n is. let t = (c.prefetch_takings.ensures.unserved n is).0 in
    has_sent_back sockets _ _ _ c.prefetch_takings.new.seats c.deref_mut-in-Some.ensures.value (sym c.deref_mut-in-Some.ensures.len) t.many (has_sent_gathered sockets _ _ t))
