use Rattle.std.proofs.Common.{arith}
use Rattle.tool_work.proofs.ConfigLemmas.{unless_some}
use Rattle.tool_work.proofs.words.log_given.Goals as goal

pub returns-in_err-patience : goal.returns-in_err-patience
returns-in_err-patience c = unless_some c.from_residual-in_err-patience.result _ _ c.from_residual-in_err-patience.ensures (λ given h. c.in_err-patience.ensures given.patience (let fits = given.in_range in omega arith) h.patience)
