-- To end stays is what a server does to its service and its persister.
use Rattle.std.proofs.Common.{ap, subst, ◌∙◌}
use Rattle.service_loop.specs.Keepers.{MayServe}
use Rattle.service_loop.specs.Sendings.{Unsent, hosted, sockets}
use Rattle.service_loop.proofs.AttendanceLemmas.{attended_ends}
use Rattle.service_loop.proofs.hosting.Hosting.end_stays.Goals as goal

pub returns-clause-ends : goal.returns-clause-ends
returns-clause-ends g c =
    let stays = c.end_if_due.new.service.stays in
    let may = g.K.Persist.may_answer c.end_if_due.new.persister in
    let checked = c.check_keepers.new.self.seats.items in
    let lease = c.args.self.now.connections.lease in
    let noted = c.note_ended.ensures.table in
    record {
      heard = c.note_ended.new.service;
      hears = c.note_ended.ensures.hears;
      same = c.note_ended.ensures.same;
      ended = c.in_ok-end_if_due.ensures.ends;
      keepers = subst (λ l. MayServe (may lease) stays l checked) (ap (λ x. x.items) noted.0)
          (subst (λ n. MayServe (may n) stays c.note_ended.new.self.numbers.items checked) noted.2
          (subst (λ t. MayServe (may t.lease) stays t.numbers.items checked) c.end_if_due.ensures.table c.in_ok-check_keepers.ensures.serves));
    }

pub returns-clause-attended : goal.returns-clause-attended
returns-clause-attended g c =
    attended_ends hosted c.args.manner g.D.Service.may g.K.Persist.prefetches g.K.Persist.persists g.K.Persist.waits g.K.Persist.shares g.K.Persist.holds c.args.grace
    c.args.self.now.looks c.args.self.now.tick c.args.self.now.lost c.args.self.now.connections.ended.items _ _ _ _ _ _ (returns-clause-ends g c)

pub returns-clause-unsent : goal.returns-clause-unsent
returns-clause-unsent g c =
    let checked = c.check_keepers.new.self.seats.items in
    subst (λ l. Unsent sockets l checked) (ap (λ x. x.seats.items) c.end_if_due.ensures.table ∙ ap (λ x. x.items) c.note_ended.ensures.table.1)
    c.in_ok-check_keepers.ensures.unsent
