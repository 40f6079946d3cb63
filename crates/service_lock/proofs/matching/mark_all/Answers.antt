use Rattle.std.proofs.Common.{◌≡◌, ◌+◌, ◌++◌, ◌∷◌, [], arith, take, ap, ◌∙◌, sym, Some, slice_get}
use Rattle.std.proofs.lemmas.List.{take_more}
use Rattle.std.proofs.lemmas.Option.{slice_get_within, get_or_from_slice_get}
use Rattle.service_lock.proofs.Marking.{marked_none, marked_more}
use Rattle.service_lock.proofs.matching.mark_all.Goals as goal

pub loop-i-init : goal.loop-i-init
loop-i-init c = marked_none _ _

pub loop-i-preserved : goal.loop-i-preserved
loop-i-preserved c =
    let xs = c.args.kept.now.items in
    let i = c.loop-i.i in
    let k = c.in-Some.k in
    let at : slice_get xs i ≡ Some k = sym c.get.ensures ∙ c.in-Some.is in
    let more : take (i + 1) xs ≡ take i xs ++ k ∷ [] = take_more xs i k (slice_get_within xs i k at) ∙ ap (λ x. take i xs ++ x ∷ []) (get_or_from_slice_get xs i k k at) in
    marked_more c.args.hall.now.history c.args.marks.now c.loop-i.marks c.mark.new.marks (take i xs) _ k more (omega arith) c.loop-i.invariant (c.mark.ensures.fits c.if-not-mark.false) (c.mark.ensures.clear c.if-not-mark.false) (c.mark.ensures.marks c.if-not-mark.false)
