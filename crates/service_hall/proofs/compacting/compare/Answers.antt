use Rattle.service_hall.proofs.RebuiltLemmas.{one_desk_of}
use Rattle.service_hall.proofs.compacting.compare.Goals as goal

pub returns : goal.returns
returns c = one_desk_of _ _ c.in_ok-sorted.sorted.new c.in_ok-other.other.new _ _ c.in_ok-sorted.ensures c.in_ok-other.ensures (c.is_one_history.ensures c.if-not-is_one_history.false) (c.is_same.ensures c.if-not-is_same.false) c.requires
