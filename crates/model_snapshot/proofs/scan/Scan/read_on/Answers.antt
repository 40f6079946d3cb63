use Rattle.std.proofs.Common.{rules}
use Rattle.model_snapshot.proofs.scan.Scan.read_on.Goals as goal

pub returns-clause-after : goal.returns-clause-after
returns-clause-after g c = search rules

pub returns-clause-goes : goal.returns-clause-goes
returns-clause-goes g c = search rules
