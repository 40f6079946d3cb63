-- One more entry is applied.
use Rattle.std.proofs.Common.{rules}
use Rattle.service_log.proofs.replica.Replica.follow.Goals as goal

pub returns-clause-passed : goal.returns-clause-passed
returns-clause-passed g c = λ passed. record {
  entry = c.get.new.entry.items;
  said = c.apply.new.replies;
  more = record { applied = search rules; stood = search rules; count = search rules; was_well = search rules; is_well = search rules };
}
