use Rattle.model_asked.specs.lemmas.ConfigProofs.{few_take_part}
use Rattle.model_renaming.proofs.laws.law_of_configs.Goals as goal

pub returns : goal.returns
returns c = few_take_part
