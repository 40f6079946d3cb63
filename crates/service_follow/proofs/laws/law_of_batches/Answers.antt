use Rattle.service_follow.proofs.Heads.{same_batch, told_rules}
use Rattle.service_follow.proofs.laws.law_of_batches.Goals as goal

pub returns : goal.returns
returns c = record { one = same_batch; rules = told_rules }
