use Rattle.words_names.proofs.Naming.{name_law}
use Rattle.words_names.proofs.names.Names.rename.Goals as goal

pub returns-clause-law : goal.returns-clause-law
returns-clause-law g c = name_law _ c.enter-seat.ensures.law
