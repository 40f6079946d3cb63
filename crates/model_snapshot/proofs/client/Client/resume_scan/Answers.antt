use Rattle.std.proofs.Common.{rules}
use Rattle.model_snapshot.proofs.client.Client.resume_scan.Goals as goal

pub returns-in-None-clause-note : goal.returns-in-None-clause-note
returns-in-None-clause-note g c = search rules
