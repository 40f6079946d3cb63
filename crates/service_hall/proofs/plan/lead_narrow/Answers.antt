use Rattle.service_hall.proofs.RebuiltLemmas.{goes_along, goes_self}
use Rattle.service_hall.proofs.plan.lead_narrow.Goals as goal

pub loop-competitor-init : goal.loop-competitor-init
loop-competitor-init c = goes_self _

pub loop-competitor-preserved : goal.loop-competitor-preserved
loop-competitor-preserved c = goes_along _ _ _ c.loop-competitor.invariant c.in_ok-enter.ensures

pub returns : goal.returns
returns c = goes_along _ _ _ c.in_ok-fill.ensures c.loop-competitor.invariant
