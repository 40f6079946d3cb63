use Rattle.std.proofs.Common.{◌≡◌, drop}
use Rattle.model_pool.specs.Competitors.{holder_in}
use Rattle.model_pool.specs.Roster.{live}
use Rattle.model_pool.proofs.roster.holder.Given as goal

abbrev pub invariant-loop-entry : goal.invariant-loop-entry
invariant-loop-entry l = holder_in l.number (live l.entries) ≡ holder_in l.number (live (drop l.entry-index l.entries))
