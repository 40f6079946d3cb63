use Rattle.text_records.proofs.SealLemmas.{held_lines, lines_behind, lines_part, opened_sealed, rest_behind, sealed_whole}
use Rattle.text_records.specs.declared.seals.LineForm.TheVariants.{Plain}
use Rattle.text_records.proofs.laws.law_of_seals.Goals as goal

pub returns-clause-line : goal.returns-clause-line
returns-clause-line c = opened_sealed

pub returns-clause-whole : goal.returns-clause-whole
returns-clause-whole c = sealed_whole c.law_of_lines.ensures.cut c.law_of_lines.ensures.once

pub returns-clause-text : goal.returns-clause-text
returns-clause-text c = held_lines c.law_of_lines.ensures.cut c.law_of_lines.ensures.once

pub returns-clause-behind : goal.returns-clause-behind
returns-clause-behind c = lines_behind Plain

pub returns-clause-part : goal.returns-clause-part
returns-clause-part c = lines_part Plain

pub returns-clause-rest : goal.returns-clause-rest
returns-clause-rest c = rest_behind
