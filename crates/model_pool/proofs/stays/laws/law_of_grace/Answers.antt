use Rattle.model_pool.proofs.stays_lemmas.GraceLemmas.{graced}
use Rattle.model_pool.proofs.stays.laws.law_of_grace.Goals as goal

pub returns : goal.returns
returns c = λ grace tick first acts stay has due. graced grace tick first acts stay has due
