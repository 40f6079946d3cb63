use Rattle.text_lines.proofs.LineLemmas.{cut_right, cut_once}
use Rattle.text_lines.proofs.laws.law_of_lines.Goals as goal

pub returns-clause-cut : goal.returns-clause-cut
returns-clause-cut c = cut_right

pub returns-clause-once : goal.returns-clause-once
returns-clause-once c = cut_once
