use Rattle.std.proofs.Common.{◌≡◌}
use Rattle.service_follow.specs.Hosted.{HasMovedOn}
use Rattle.service_follow.proofs.log_persister.LogPersister.apply_all.Given as goal

abbrev pub invariant-loop : goal.invariant-loop
invariant-loop g l = record {
  moved : HasMovedOn g.S.Store.stands l.fn.self.log l.self.log;
  terms : l.self.terms ≡ l.fn.self.terms;
  own : (l.self.token ≡ l.fn.self.token) × (l.self.count ≡ l.fn.self.count) × (l.self.rules ≡ l.fn.self.rules) × (l.self.compaction ≡ l.fn.self.compaction);
}
