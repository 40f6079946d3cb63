use Rattle.std.proofs.Common.{subst}
use Rattle.words_names.specs.NameLaw.{NameSpec}
use Rattle.words_names.proofs.Naming.{name_law}
use Rattle.words_names.proofs.seats.Renamed.name.Goals as goal

pub returns-clause-law : goal.returns-clause-law
returns-clause-law c = subst NameSpec c.self.view_is (name_law _ c.self.invariant)
