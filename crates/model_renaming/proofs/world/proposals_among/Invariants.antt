use Rattle.std.proofs.Common.{◌≡◌, ◌≤◌, [], length, drop}
use Rattle.model_renaming.specs.RenameWorld.{shown_by}
use Rattle.model_renaming.proofs.world.proposals_among.Given as goal

abbrev pub invariant-loop-participant : goal.invariant-loop-participant
invariant-loop-participant l = record {
  shown : shown_by l.view (drop l.participant-index l.rounds) ≡ shown_by [] l.rounds;
  room : length l.view ≤ l.participant-index;
}
