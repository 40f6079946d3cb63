-- Nothing stands behind the end.
use Rattle.service_log.proofs.Shared.{never_both}
use Rattle.service_log.proofs.laws.law_of_memory.Goals as goal

pub returns : goal.returns
returns c = λ both. never_both both.0 both.1 both.2.0 both.3 both.2.1
