use Rattle.std.proofs.Common.{rules}
use Rattle.model_snapshot.proofs.client.ClientStepProgram.next.Goals as goal

pub returns-in-Scan : goal.returns-in-Scan
returns-in-Scan g c = search rules
