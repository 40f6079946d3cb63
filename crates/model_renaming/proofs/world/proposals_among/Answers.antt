use Rattle.std.proofs.Common.{◌∙◌, arith}
use Rattle.model_renaming.proofs.rounds.Shown.{shown_next, length_shown}
use Rattle.model_renaming.proofs.world.proposals_among.Goals as goal

pub loop-participant-preserved : goal.loop-participant-preserved
loop-participant-preserved c =
    let longer = length_shown c.loop-participant.view c.show.new.view _ _ c.show.ensures in
    let room = c.loop-participant.invariant.room in
    record {
      shown = shown_next c.loop-participant.view c.show.new.view c.args.rounds.now c.loop-participant.participant-index _ c.loop-participant-test.true c.show.ensures ∙ c.loop-participant.invariant.shown;
      room = omega arith;
    }
