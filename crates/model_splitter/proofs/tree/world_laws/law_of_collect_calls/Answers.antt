use Rattle.model_splitter.proofs.tree_lemmas.CollectSteps.{collect_reads_few}
use Rattle.model_splitter.proofs.tree.world_laws.law_of_collect_calls.Goals as goal

pub returns : goal.returns
returns g c = λ memory w o p v collect here task first r a run. collect_reads_few memory a.started.tree first.0 first.1 w r a.started.few a.started.empty a.run o p v collect run here task
