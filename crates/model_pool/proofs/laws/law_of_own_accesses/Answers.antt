use Rattle.model_pool.proofs.LocalityLemmas.{own_probe, own_leave, widening}
use Rattle.model_pool.proofs.laws.law_of_own_accesses.Goals as goal

pub returns : goal.returns
returns c = record { probe = own_probe; leave = own_leave; widen = widening }
