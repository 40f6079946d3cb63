-- The hall went on as entries were given up, and then.
use Rattle.service_follow.proofs.Moves.{told_then}
use Rattle.service_follow.proofs.compaction.Compaction.compact.Goals as goal

pub returns : goal.returns
returns g c = record { told = told_then g.S.Store.stands _ _ _ _ _ _ c.args.log.now c.trim.new.log c.compact_when_due.new.log c.trim.ensures.told c.compact_when_due.ensures.told }
