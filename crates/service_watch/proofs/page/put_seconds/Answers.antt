use Rattle.service_watch.proofs.PageLemmas.{flat_appended}
use Rattle.service_watch.proofs.page.put_seconds.Goals as goal

pub loop-unit-preserved : goal.loop-unit-preserved
loop-unit-preserved c = flat_appended _ _ c.loop-unit.unit-index 0 c.put.new.page.items c.loop-unit.page.items _ c.loop-unit-test.true c.loop-unit.invariant c.in_ok-put_digits-2.ensures
