use Rattle.model_snapshot.proofs.cited.Clients.{has_begun, goes_idle, goes_busy}
use Rattle.model_snapshot.proofs.laws.law_of_clients.Goals as goal

pub returns : goal.returns
returns g c = record {
  begun = has_begun _;
  idle = goes_idle _;
  busy = goes_busy _;
}
