use Rattle.model_recursion.proofs.Levelling.{split_below}
use Rattle.model_recursion.proofs.Descent.{one_name, name_within}
use Rattle.model_recursion.proofs.laws.law_of_levels.Goals as goal

pub returns : goal.returns
returns c = record { split = split_below; distinct = λ n m rows run. one_name n m rows run; within = λ n m rows run. name_within n m rows run }
