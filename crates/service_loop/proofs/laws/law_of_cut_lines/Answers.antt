use Rattle.service_loop.proofs.LfLemmas.{needs_lf}
use Rattle.service_loop.proofs.laws.law_of_cut_lines.Goals as goal

pub returns : goal.returns
returns c = needs_lf
