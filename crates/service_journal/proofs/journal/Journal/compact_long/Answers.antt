use Rattle.std.proofs.Common.{inl, subst}
use Rattle.service_journal.proofs.Common.{HallState, IsCompacted}
use Rattle.service_journal.proofs.Compacts.{may_compact}
use Rattle.service_journal.proofs.journal.Journal.compact_long.Goals as goal

pub returns-clause-compacted : goal.returns-clause-compacted
returns-clause-compacted g c =
    may_compact _ c.in-Some.hall c.args.write_ahead.now c.compact.new.write_ahead (subst (λ (h : HallState). IsCompacted h c.in-Some.hall) c.hall.ensures c.in-Some.ensures.compacted) c.in_ok-done.ensures.taken

pub returns-clause-stands : goal.returns-clause-stands
returns-clause-stands g c = c.in_ok-done.ensures.stands

pub returns-clause-any_moment : goal.returns-clause-any_moment
returns-clause-any_moment g c = λ stands.
    inl (c.in-Some.hall, subst (λ (h : HallState). IsCompacted h c.in-Some.hall) c.hall.ensures c.in-Some.ensures.compacted, c.compact.ensures.any_moment stands)

pub returns-in_err-done-clause-any_moment : goal.returns-in_err-done-clause-any_moment
returns-in_err-done-clause-any_moment g c = λ stands.
    inl (c.in-Some.hall, subst (λ (h : HallState). IsCompacted h c.in-Some.hall) c.hall.ensures c.in-Some.ensures.compacted, c.compact.ensures.any_moment stands)
