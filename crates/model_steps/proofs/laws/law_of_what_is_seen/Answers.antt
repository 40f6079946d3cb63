use Rattle.model_steps.proofs.cited.SetAtLemmas.{set_at-map, same_in}
use Rattle.model_steps.proofs.laws.law_of_what_is_seen.Goals as goal

pub returns-clause-same : goal.returns-clause-same
returns-clause-same g c = same_in

pub returns-clause-changed : goal.returns-clause-changed
returns-clause-changed g c = set_at-map
