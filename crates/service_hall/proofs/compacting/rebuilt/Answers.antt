use Rattle.service_hall.proofs.RebuiltLemmas.{led_there}
use Rattle.service_hall.proofs.compacting.rebuilt.Goals as goal

pub returns-clause-renaming : goal.returns-clause-renaming
returns-clause-renaming c = (led_there _ _ _ _ c.in_ok-new.ensures c.in_ok-lead.ensures).0

pub returns-clause-desk : goal.returns-clause-desk
returns-clause-desk c = (led_there _ _ _ _ c.in_ok-new.ensures c.in_ok-lead.ensures).1 (c.is_same.ensures c.if-not-is_same.false)
