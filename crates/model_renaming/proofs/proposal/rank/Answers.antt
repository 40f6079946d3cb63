use Rattle.std.proofs.Common.{rules}
use Rattle.model_renaming.proofs.proposal.rank.Goals as goal

pub returns : goal.returns
returns c = search rules
