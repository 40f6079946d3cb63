use Rattle.std.proofs.Common.{arith}
use Rattle.std.proofs.lemmas.List.Edits.{map_over_more}
use Rattle.std.proofs.lemmas.List.{get_or_default}
use Rattle.service_follow.specs.Kept.{heard}
use Rattle.service_follow.proofs.keeping.hear_all.Goals as goal

pub loop-stay-preserved : goal.loop-stay-preserved
loop-stay-preserved c = rw c.hear.ensures (map_over_more (heard c.args.token.now c.args.place) c.args.kept.now c.loop-stay.kept c.loop-stay.stay-index _ (omega arith) c.loop-stay.invariant (get_or_default c.loop-stay.kept c.loop-stay.stay-index _ _ (omega arith)))
