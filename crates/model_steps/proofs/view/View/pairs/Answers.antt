use Rattle.model_steps.specs.lemmas.ViewInside.{given_back}
use Rattle.model_steps.proofs.view.View.pairs.Goals as goal

pub returns-clause-few : goal.returns-clause-few
returns-clause-few c = let e = given_back c.self.inside.pairs c.self.inside.len c.self.invariant in rw (← c.self.view_is, e.1) c.self.invariant.room
