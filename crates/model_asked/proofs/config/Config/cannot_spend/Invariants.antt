use Rattle.std.proofs.Common.{◌≡◌, ◌<◌, ◌≤◌, ◌+◌, ◌*◌}
use Rattle.model_asked.specs.rounds.Rounds.{most_proposals}
use Rattle.model_asked.proofs.config.Config.cannot_spend.Given as goal

abbrev pub invariant-loop-begun : goal.invariant-loop-begun
invariant-loop-begun l = record {
  is : l.most ≡ most_proposals l.begun;
  below : l.most < 2 * l.self.limit;
  enough : 1 ≤ l.begun → l.most + 2 < 2 * l.self.limit;
}
