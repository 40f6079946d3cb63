use Rattle.std.proofs.Common.{refl}
use Rattle.model_pool.specs.Roster.{bucket}
use Rattle.model_pool.proofs.roster.bucket_of.Goals as goal

pub returns-clause-bucket : goal.returns-clause-bucket
unfolding bucket
returns-clause-bucket c = refl
