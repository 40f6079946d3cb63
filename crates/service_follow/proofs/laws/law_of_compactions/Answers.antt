use Rattle.service_follow.proofs.Keepers.{by_desk}
use Rattle.service_follow.proofs.Uncompacted.{same_desk, same_replies}
use Rattle.service_follow.proofs.laws.law_of_compactions.Goals as goal

pub returns : goal.returns
returns c = record { each = by_desk; all = same_desk; replies = same_replies }
