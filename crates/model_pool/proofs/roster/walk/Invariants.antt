use Rattle.std.proofs.Common.{length}
use Rattle.model_pool.proofs.IndexLemmas.{IsReached}
use Rattle.model_pool.proofs.roster.walk.Given as goal

abbrev pub invariant-loop-at : goal.invariant-loop-at
invariant-loop-at l = IsReached l.entries (length l.heads) l.id l.at

abbrev pub decreases-loop-at : goal.decreases-loop-at
decreases-loop-at l = l.at
