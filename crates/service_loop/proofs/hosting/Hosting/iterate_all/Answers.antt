-- A turn of the loop is what was done to the service, and to whoever is at fault nothing is sent.
use Rattle.std.proofs.Common.{◌≡◌, ◌∙◌, sym}
use Rattle.service_loop.specs.declared.connection.ConnectionStage.TheVariants as stage
use Rattle.service_loop.specs.Sendings.{hosted, sockets}
use Rattle.service_loop.proofs.AttendanceLemmas.{attended_lost, attended_prefetched, attended_turn}
use Rattle.service_loop.proofs.SendingLemmas.{has_sent_back, has_sent_gathered, has_sent_prefetched, has_sent_then, has_sent_turn, sent_called}
use Rattle.service_loop.proofs.hosting.Hosting.iterate_all.Goals as goal

pub returns-in_ok-called-in-None-clause-attended : goal.returns-in_ok-called-in-None-clause-attended
returns-in_ok-called-in-None-clause-attended g c = λ manner grace.
    let t = c.in_ok-called-in-None.ensures.turned in
    attended_turn hosted manner g.D.Service.may g.K.Persist.prefetches g.K.Persist.persists g.K.Persist.waits g.K.Persist.shares g.K.Persist.holds grace _ _ c.all-numbers.ensures.own _ _ _ _ _ _ t.0.turn t.1

pub returns-in_ok-called-in-None-clause-sent : goal.returns-in_ok-called-in-None-clause-sent
returns-in_ok-called-in-None-clause-sent g c =
    let t = c.in_ok-called-in-None.ensures.turned.0.turn in
    has_sent_back sockets _ _ _ c.iterate.new.seats c.deref_mut.ensures.value (sym c.deref_mut.ensures.len) (t.sent.many ∙ t.taken.many) (has_sent_turn sockets g.D.Service.may g.K.Persist.persists _ _ _ _ _ _ t)

pub returns-in-Some-clause-attended : goal.returns-in-Some-clause-attended
returns-in-Some-clause-attended g c = λ manner grace.
    let may = g.D.Service.may in
    let prefetches = g.K.Persist.prefetches in
    let persists = g.K.Persist.persists in
    let waits = g.K.Persist.waits in
    let e = c.iterate_prefetched.ensures in
    sent_called c.iterate_prefetched.result _
    (λ n is. let t = e.served n is in
    attended_prefetched hosted manner may prefetches persists waits g.K.Persist.shares g.K.Persist.holds grace (λ x. x.peek) (λ x. x.stage ≡ stage.Queued) _ _ _ _ c.all-numbers-in-Some.ensures.own _ _ _ _ _ _ _ t.0 t.1)
    (λ n is. attended_lost hosted manner may prefetches persists waits g.K.Persist.shares g.K.Persist.holds grace c.in-Some.batch.kind c.iterate_prefetched.new.batch.lines.items _ _ _ _ (e.lost n is))

pub returns-in-Some-clause-sent : goal.returns-in-Some-clause-sent
returns-in-Some-clause-sent g c =
    let e = c.iterate_prefetched.ensures in
    sent_called c.iterate_prefetched.result _
    (λ n is. let t = (e.served n is).0 in
    has_sent_back sockets _ _ _ c.iterate_prefetched.new.seats c.deref_mut-in-Some.ensures.value (sym c.deref_mut-in-Some.ensures.len) (t.turn.sent.many ∙ t.turn.taken.many ∙ t.gathered.many)
    (has_sent_prefetched sockets g.D.Service.may g.K.Persist.persists g.K.Persist.prefetches (λ x. x.peek) (λ x. x.stage ≡ stage.Queued) _ _ _ _ _ _ _ _ _ t))
    (λ n is. let t = e.unserved n is in
    has_sent_back sockets _ _ _ c.iterate_prefetched.new.seats c.deref_mut-in-Some.ensures.value (sym c.deref_mut-in-Some.ensures.len) (t.given_up.many ∙ t.gathered.many)
    (has_sent_then sockets _ _ _ (has_sent_gathered sockets _ _ t.gathered) (has_sent_gathered sockets _ _ t.given_up)))
