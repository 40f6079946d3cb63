use Rattle.words_names.proofs.Naming.{name_law}
use Rattle.words_names.proofs.names.Names.step.Goals as goal

pub returns-in-Ok-clause-law : goal.returns-in-Ok-clause-law
returns-in-Ok-clause-law g c = name_law _ c.in-Ok.ensures.law
