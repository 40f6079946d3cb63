use Rattle.std.proofs.Common.{◌≡◌, ◌+◌, length, subst, List}
use Rattle.service_lock.proofs.Common.{IsMarked}
use Rattle.service_lock.specs.declared.kept.Kept.{Kept}
use Rattle.service_lock.proofs.Marking.{are_none, are_more, map_more}
use Rattle.service_lock.proofs.matching.mark_each.Goals as goal

pub loop-caller-init : goal.loop-caller-init
loop-caller-init g c = are_none _ _ _

pub loop-caller-preserved : goal.loop-caller-preserved
loop-caller-preserved g c =
    let x = c.caller-item.result in
    let e = subst (λ (ks : List Kept). IsMarked c.args.hall.now.history c.loop-caller.marks c.mark_list.new.marks ks × (c.in_ok-now.now + length ks ≡ c.loop-caller.now)) c.kept_log.ensures c.in_ok-now.ensures in
    rw (map_more g.C.Caller.kept c.args.callers.now.items c.deref-caller-items.result.now c.loop-caller.caller-index x c.deref-caller-items.ensures.value c.loop-caller-test.true c.caller-item.is)
    (are_more _ _ _ _ _ _ _ _ _ c.loop-caller.invariant e.0 e.1)
