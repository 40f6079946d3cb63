use Rattle.std.proofs.Common.{◌≡◌, ◌+◌, drop, option_map}
use Rattle.model_snapshot.specs.Sightings.{index_of}
use Rattle.model_snapshot.proofs.sightings.find.Given as goal

-- the place was not met so far
abbrev pub invariant-loop-i : goal.invariant-loop-i
invariant-loop-i l = index_of l.place l.entries ≡ option_map (λ k. l.i + k) (index_of l.place (drop l.i l.entries))
