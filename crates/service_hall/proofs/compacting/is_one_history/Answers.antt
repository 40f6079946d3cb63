use Rattle.std.proofs.Common.{◌≡◌, Some, List, [], ◌∷◌, ◌++◌, take, sym, ap, ◌∙◌, slice_get}
use Rattle.model_asked.specs.declared.exchange.Exchange.{Exchange}
use Rattle.service_hall.proofs.RebuiltLemmas.{take_next}
use Rattle.service_hall.proofs.compacting.is_one_history.Goals as goal

pub loop-place-preserved : goal.loop-place-preserved
loop-place-preserved c =
    let one : slice_get c.args.one.now.history c.loop-place.place ≡ Some c.in-Some-Some.exchange = sym c.in-Some-Some.ensures in
    let other : slice_get c.args.other.now.history c.loop-place.place ≡ Some c.in-Some-Some.beside = sym c.in-Some-Some.ensures' in
    let same : c.in-Some-Some.exchange ≡ c.in-Some-Some.beside = c.is_same.ensures c.if-not-is_same.false in
    take_next c.args.one.now.history c.loop-place.place c.in-Some-Some.exchange one
    ∙ ap (λ (l : List Exchange). l ++ c.in-Some-Some.exchange ∷ []) c.loop-place.invariant
    ∙ ap (λ (x : Exchange). take c.loop-place.place c.args.other.now.history ++ x ∷ []) same
    ∙ sym (take_next c.args.other.now.history c.loop-place.place c.in-Some-Some.beside other)
