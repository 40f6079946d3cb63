-- A refusal of the hall says nothing of the token.
use Rattle.std.proofs.Common.{◌≡◌, true, false, sym, ◌∙◌}
use Rattle.service_follow.proofs.Refusals.{refused}
use Rattle.service_follow.proofs.log_persister.LogPersister.open_any.Goals as goal

pub returns-in_err-log-clause-token : goal.returns-in_err-log-clause-token
returns-in_err-log-clause-token g c = (
  λ is. refused c.from_residual.result c.in_err-log.field-0.0 c.from_residual.ensures.1 is,
  λ any. absurd (let no : true ≡ false = sym any ∙ sym c.contains.ensures.value ∙ c.if-contains.false in cc),
)
