use Rattle.std.proofs.Common.{rules}
use Rattle.model_splitter.proofs.tree.walker.Walker.resume_visit.Goals as goal

pub returns-in-Ended-Stop-clause-after : goal.returns-in-Ended-Stop-clause-after
returns-in-Ended-Stop-clause-after c = search rules

pub returns-in-Ended-Stop-clause-note : goal.returns-in-Ended-Stop-clause-note
returns-in-Ended-Stop-clause-note c = search rules
