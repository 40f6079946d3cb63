use Rattle.service_follow.specs.Tellings.{HasToldAlone}
use Rattle.service_follow.proofs.compaction.Compaction.compact_when_due.Given as goal

-- the hall went on, and told nothing but compactions
abbrev pub invariant-loop : goal.invariant-loop
invariant-loop g l = HasToldAlone g.S.Store.stands l.fn.self.due l.self.due l.fn.self.token l.self.token l.fn.log l.log
