use Rattle.model_pool.proofs.slots_lemmas.TokenLemmas.{tokens_rise}
use Rattle.model_pool.proofs.slots.laws.law_of_tokens.Goals as goal

pub returns : goal.returns
returns c = tokens_rise
