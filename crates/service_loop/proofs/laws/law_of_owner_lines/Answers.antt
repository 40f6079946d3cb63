use Rattle.service_loop.proofs.OwnerLemmas.{go_as_owned}
use Rattle.service_loop.proofs.laws.law_of_owner_lines.Goals as goal

pub returns : goal.returns
returns c = go_as_owned
