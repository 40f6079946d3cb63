use Rattle.std.proofs.Common.{◌≡◌, drop}
use Rattle.model_renaming.specs.RenameWorld.{owner_by}
use Rattle.model_renaming.proofs.world.owner_among.Given as goal

abbrev pub invariant-loop-participant : goal.invariant-loop-participant
invariant-loop-participant l = owner_by l.number (drop l.participant-index l.rounds) ≡ owner_by l.number l.rounds
