use Rattle.std.proofs.Common.{◌≡◌, ◌++◌, take}
use Rattle.model_pool.specs.Roster.{live}
use Rattle.model_pool.proofs.roster.copy.Given as goal

abbrev pub invariant-loop-entry : goal.invariant-loop-entry
invariant-loop-entry g l = l.out.items ≡ l.initial.out.items ++ live (take l.entry-index l.entries)
