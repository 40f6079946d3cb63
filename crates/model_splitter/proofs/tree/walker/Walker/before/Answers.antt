use Rattle.std.proofs.Common.{rules}
use Rattle.model_splitter.proofs.tree.walker.Walker.before.Goals as goal

pub returns : goal.returns
returns c = search rules
