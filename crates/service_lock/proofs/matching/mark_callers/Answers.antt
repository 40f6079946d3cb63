use Rattle.std.proofs.Common.{◌≡◌, false, arith, ap, ◌∙◌, length}
use Rattle.std.proofs.lemmas.List.{length-replicate}
use Rattle.service_lock.proofs.Marking.{just}
use Rattle.service_lock.proofs.matching.mark_callers.Goals as goal

pub mark_each-requires : goal.mark_each-requires
mark_each-requires g c = ap length c.requires ∙ length-replicate (length c.args.hall.now.history) false

pub mark_each-requires-2 : goal.mark_each-requires-2
mark_each-requires-2 g c =
    let h = c.args.hall.now.history in
    omega (arith, c.mark_each.auto.marks, ap length c.requires, length-replicate (length h) false)

pub returns : goal.returns
returns g c = λ full.
    let h = c.args.hall.now.history in
    let long : length c.mark_each-2.new.marks ≡ length h = omega (arith, c.mark_each-2.auto.marks, c.mark_each.auto.marks, ap length c.requires, length-replicate (length h) false) in
    just h c.args.marks.now c.mark_each.new.marks c.mark_each-2.new.marks _ _ _ _ _ c.requires long c.len.ensures.count c.if-left-ne0.false c.in-Some.ensures c.in-Some-mark_each.ensures (c.all_marked.ensures full)
