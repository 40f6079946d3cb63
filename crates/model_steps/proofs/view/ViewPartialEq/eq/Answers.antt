use Rattle.model_steps.specs.lemmas.ViewEq.{same_pairs_decides}
use Rattle.model_steps.proofs.view.ViewPartialEq.eq.Goals as goal

pub returns-clause-answer : goal.returns-clause-answer
returns-clause-answer c = rw (← c.pairs.ensures.pairs, ← c.pairs-2.ensures.pairs) c.eq.ensures

pub returns-clause-same : goal.returns-clause-same
returns-clause-same c = rw (returns-clause-answer c) (same_pairs_decides c.args.self.now c.args.other.now)
