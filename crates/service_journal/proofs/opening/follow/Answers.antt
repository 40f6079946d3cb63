use Rattle.std.proofs.Common.{◌≡◌, inl}
use Rattle.service_journal.specs.declared.opening.OpenFault.TheVariants.{NoMemory}
use Rattle.service_journal.proofs.FaultLemmas.{on_err}
use Rattle.service_journal.proofs.opening.follow.Goals as goal

pub returns-in_err-event-clause-errors : goal.returns-in_err-event-clause-errors
returns-in_err-event-clause-errors c = on_err (λ f. f ≡ NoMemory) _ c.from_residual.result c.from_residual.ensures.1 (λ e is. inl is)
