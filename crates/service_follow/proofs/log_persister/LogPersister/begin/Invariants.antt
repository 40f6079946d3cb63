use Rattle.std.proofs.Common.{◌≡◌}
use Rattle.service_follow.proofs.log_persister.LogPersister.begin.Given as goal

abbrev pub invariant-loop : goal.invariant-loop
invariant-loop g l = (l.self.log.config ≡ l.fn.self.log.config) × (l.self.terms ≡ l.fn.self.terms) ×
    ((l.self.token ≡ l.fn.self.token) × (l.self.count ≡ l.fn.self.count) × (l.self.rules ≡ l.fn.self.rules) × (l.self.compaction ≡ l.fn.self.compaction))
