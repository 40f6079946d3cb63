-- What was released was decided by all that was read.
use Rattle.std.proofs.Common.{◌∙◌, Ok, ap, inr}
use Rattle.std.proofs.lemmas.Result.{on_ok_weaker}
use Rattle.service_follow.proofs.Moves.{moved_then}
use Rattle.service_follow.proofs.Releasing.{decided_after, looked_after}
use Rattle.service_follow.proofs.log_persister.LogPersister.end_stays.Goals as goal

pub returns-in-Ok-true-clause-released : goal.returns-in-Ok-true-clause-released
returns-in-Ok-true-clause-released g c = decided_after _ _ _ _ _ _ c.read-read.new.self.stays _ _ _ _ _ _ (c.read-read.ensures.read (c.in-Ok-true.is ∙ ap Ok c.in-Ok-true.field-0-test)) c.read-read.ensures.same c.end_by_terms.ensures.moved.config c.end_by_terms.ensures.released

pub returns-in-Ok-true-clause-looked : goal.returns-in-Ok-true-clause-looked
returns-in-Ok-true-clause-looked g c = on_ok_weaker c.end_by_terms.result (λ looked. inr (looked_after _ _ _ _ c.read-read.new.self.stays _ _ _ _ (c.read-read.ensures.read (c.in-Ok-true.is ∙ ap Ok c.in-Ok-true.field-0-test)) c.end_by_terms.ensures.moved.config looked)) c.end_by_terms.ensures.looked

pub returns-in-Ok-true-clause-gone_on : goal.returns-in-Ok-true-clause-gone_on
returns-in-Ok-true-clause-gone_on g c = on_ok_weaker c.end_by_terms.result (λ unreported. record {
  moved = moved_then g.S.Store.stands c.args.self.now.log c.read-read.new.self c.end_by_terms.new.self.log c.read-read.ensures.moved c.end_by_terms.ensures.moved;
  counts = c.end_by_terms.ensures.counted;
  unreported = unreported;
}) c.end_by_terms.ensures.unreported
