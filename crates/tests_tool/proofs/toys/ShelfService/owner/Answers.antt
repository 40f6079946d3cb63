use Rattle.text_worlds.specs.lemmas.VisitProofs.{no_name}
use Rattle.tests_tool.proofs.toys.ShelfService.owner.Goals as goal

pub returns : goal.returns
returns g c = no_name c.args.self.now c.args._n c.requires
