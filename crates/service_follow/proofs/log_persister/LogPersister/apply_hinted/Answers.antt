-- A refusal of the hall says nothing of the token.
use Rattle.service_follow.proofs.Refusals.{refused}
use Rattle.service_follow.proofs.log_persister.LogPersister.apply_hinted.Goals as goal

pub returns-in_err-start_at-clause-other : goal.returns-in_err-start_at-clause-other
returns-in_err-start_at-clause-other g c = λ is. refused c.from_residual.result c.in_err-start_at.field-0.0 c.from_residual.ensures.1 is
