use Rattle.std.proofs.Common.{arith, ◌∙◌}
use Rattle.model_snapshot.proofs.Shown.{shown_next, length_shown}
use Rattle.model_snapshot.proofs.sightings.Sightings.view.Goals as goal

pub loop-entry-preserved : goal.loop-entry-preserved
loop-entry-preserved c =
    let next = shown_next c.loop-entry.view c.show.new.view _ c.loop-entry.entry-index _ c.loop-entry-test.true c.show.ensures in
    record {
      shown = next ∙ c.loop-entry.invariant.shown;
      room = (let longer = length_shown c.loop-entry.view c.show.new.view _ c.show.ensures in let room = c.loop-entry.invariant.room in omega arith);
    }
