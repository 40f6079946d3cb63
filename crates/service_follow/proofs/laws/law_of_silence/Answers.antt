use Rattle.service_follow.proofs.Silences.{silent}
use Rattle.service_follow.proofs.laws.law_of_silence.Goals as goal

pub returns : goal.returns
returns c = silent
