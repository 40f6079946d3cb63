use Rattle.service_journal.proofs.Compacts.{leaves_either}
use Rattle.service_journal.proofs.Restarts.{opened, stays}
use Rattle.service_journal.proofs.laws.law_of_crashes.Goals as goal

pub returns-clause-between : goal.returns-clause-between
returns-clause-between c = stays c.law_of_lines.ensures.once

pub returns-clause-opened : goal.returns-clause-opened
returns-clause-opened c = opened c.law_of_lines.ensures.cut

pub returns-clause-replaced : goal.returns-clause-replaced
returns-clause-replaced c = leaves_either c.law_of_lines.ensures.once
