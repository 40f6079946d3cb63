use Rattle.std.proofs.Common.{◌≡◌, ◌∙◌, sym}
use Rattle.service_journal.proofs.Common.{with_view, exchange, waiting_of, write_ahead_of}
use Rattle.service_journal.proofs.WaitingLemmas.{more_waits, same_waits}
use Rattle.service_journal.proofs.write_ahead.WriteAheadService.apply.Goals as goal

pub invariant_of-self-then-not-is_refusal : goal.invariant_of-self-then-not-is_refusal
invariant_of-self-then-not-is_refusal g c =
    let h = c.self.inside.hall in
    let u = c.applied-reply.new.hall in
    let reported = c.self.inside.reported in
    let view = c.applied-reply.new.view in
    let x = exchange c.args.event (with_view c.applied-reply.result view) in
    let lines : c.reserve.new.self.items ≡ waiting_of (write_ahead_of h reported) = c.reserve.ensures.items ∙ c.self.invariant.0 in
    let more = more_waits h u reported x c.reserve.new.self.items lines c.self.invariant.1 (c.applied-reply.ensures.accepted (sym (c.is_refusal.ensures view) ∙ c.if-not-is_refusal.true)) in
    (c.put_line.ensures ∙ more.0, more.1)

pub invariant_of-self-else-not-is_refusal : goal.invariant_of-self-else-not-is_refusal
invariant_of-self-else-not-is_refusal g c =
    let view = c.applied-reply.new.view in
    let lines : c.reserve.new.self.items ≡ waiting_of (write_ahead_of c.self.inside.hall c.self.inside.reported) = c.reserve.ensures.items ∙ c.self.invariant.0 in
    same_waits c.self.inside.hall c.applied-reply.new.hall c.self.inside.reported c.reserve.new.self.items lines c.self.invariant.1 (c.applied-reply.ensures.refused (sym (c.is_refusal.ensures view) ∙ c.if-not-is_refusal.false))
