use Rattle.std.proofs.Common.{◌≡◌, ◌≤◌, [], length, drop}
use Rattle.model_snapshot.specs.Sightings.{shown_by}
use Rattle.model_snapshot.proofs.sightings.Sightings.view.Given as goal

-- what is left to show, after what was shown, is all
abbrev pub invariant-loop-entry : goal.invariant-loop-entry
invariant-loop-entry l = record {
  shown : shown_by l.view (drop l.entry-index l.entry-items) ≡ shown_by [] l.entry-items;
  room : length l.view ≤ l.entry-index;
}
