use Rattle.std.proofs.Common.{rules}
use Rattle.model_snapshot.proofs.client.ToUpdateRequestClient.ask.Goals as goal

pub returns : goal.returns
returns g c = search rules
