-- The entry that ends tells what the log does.
use Rattle.std.proofs.Common.{sym, ◌∙◌}
use Rattle.service_follow.proofs.Told.{ends_so}
use Rattle.service_follow.proofs.compaction.Compaction.end.Goals as goal

pub offer-requires : goal.offer-requires
offer-requires g c =
    ends_so c.args.self.now.due c.args.self.now.token c.args.log.now.stays.machine _ _ _ _ _ c.in-Ok.ensures c.entries.ensures c.kept.ensures (sym c.under_way.ensures ∙ c.in-Some.is)
