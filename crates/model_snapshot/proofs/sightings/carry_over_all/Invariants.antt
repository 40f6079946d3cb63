use Rattle.std.proofs.Common.{◌≡◌, ◌++◌, take, drop, map}
use Rattle.model_snapshot.specs.Sightings.{carried_over}
use Rattle.model_snapshot.proofs.sightings.carry_over_all.Given as goal

-- the entries so far were carried over
abbrev pub invariant-loop-entry : goal.invariant-loop-entry
invariant-loop-entry l = l.entries ≡ map carried_over (take l.entry-index l.initial.entries) ++ drop l.entry-index l.initial.entries
