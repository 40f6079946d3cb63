use Rattle.service_journal.proofs.SealedLemmas.{leaves_either_lines, leaves_lines}
use Rattle.service_journal.proofs.laws.law_of_sealed_crashes.Goals as goal

pub returns-clause-between : goal.returns-clause-between
returns-clause-between c = leaves_lines c.law_of_seals.ensures.part

pub returns-clause-replaced : goal.returns-clause-replaced
returns-clause-replaced c = leaves_either_lines c.law_of_seals.ensures.part c.law_of_seals.ensures.text
