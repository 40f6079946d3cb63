use Rattle.std.proofs.Common.{arith}
use Rattle.std.proofs.lemmas.List.Edits.{map_over_more}
use Rattle.std.proofs.lemmas.List.{get_or_default}
use Rattle.model_pool.specs.stays.Stays.{ended_by}
use Rattle.model_pool.proofs.stays.stays.end_all.Goals as goal

pub loop-stay-preserved : goal.loop-stay-preserved
loop-stay-preserved c = rw c.after_end-stay.ensures (map_over_more (ended_by c.args.keeper c.args.tick) c.args.stays.now c.loop-stay.stays c.loop-stay.stay-index _ (omega arith) c.loop-stay.invariant (get_or_default c.loop-stay.stays c.loop-stay.stay-index _ _ (omega arith)))
