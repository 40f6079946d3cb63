use Rattle.model_steps.proofs.cited.SetAtLemmas.{set_at-same, set_at-other, set_at-as_is, set_at-is}
use Rattle.model_steps.proofs.laws.law_of_one_place.Goals as goal

pub returns-clause-same : goal.returns-clause-same
returns-clause-same g c = set_at-same

pub returns-clause-other : goal.returns-clause-other
returns-clause-other g c = set_at-other

pub returns-clause-as_is : goal.returns-clause-as_is
returns-clause-as_is g c = set_at-as_is

pub returns-clause-is : goal.returns-clause-is
returns-clause-is g c = set_at-is
