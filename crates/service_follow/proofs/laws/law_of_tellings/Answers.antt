use Rattle.service_follow.proofs.Told.{read_back}
use Rattle.service_follow.proofs.laws.law_of_tellings.Goals as goal

pub returns : goal.returns
returns c = read_back
