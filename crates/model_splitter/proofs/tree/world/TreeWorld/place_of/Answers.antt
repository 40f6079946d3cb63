use Rattle.std.proofs.Common.{rules, ◌∙◌}
use Rattle.model_splitter.proofs.tree_lemmas.TreeProved.{place_answered}
use Rattle.model_splitter.proofs.tree.world.TreeWorld.place_of.Goals as goal

pub returns-in_err-program-clause-answered : goal.returns-in_err-program-clause-answered
returns-in_err-program-clause-answered g c = λ first r a. search rules ∙ place_answered c.args.self.now c.args.id first r a

pub returns-clause-answered : goal.returns-clause-answered
returns-clause-answered g c = λ first r a. search rules ∙ place_answered c.args.self.now c.args.id first r a
