-- One stay more was appended before the others.
use Rattle.std.proofs.Common.{arith}
use Rattle.service_follow.proofs.Told.{stays_on}
use Rattle.service_follow.proofs.compaction.push_stays.Goals as goal

pub loop-stay-preserved : goal.loop-stay-preserved
loop-stay-preserved c =
    let more = c.loop-stay-test.true in
    stays_on c.args.kept.now c.loop-stay.stay-index _ c.loop-stay.entry.items _ c.push_stay.new.entry.items (omega arith) c.loop-stay.invariant c.in_ok-push_stay.ensures
