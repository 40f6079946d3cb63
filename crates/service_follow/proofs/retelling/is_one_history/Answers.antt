-- One exchange more is the same.
use Rattle.std.proofs.Common.{◌≡◌, ◌+◌, ◌++◌, ◌∷◌, ℕ, List, [], Some, take, sym, ap, ◌∙◌, add-one, slice_get}
use Rattle.std.proofs.Math.Seq.{take-suc}
use Rattle.std.proofs.lemmas.Option.{get_or_from_slice_get, slice_get_within}
use Rattle.model_asked.specs.declared.exchange.Exchange.{Exchange}
use Rattle.service_follow.proofs.retelling.is_one_history.Goals as goal

one_more : (xs : List Exchange) (n : ℕ) (x : Exchange) → slice_get xs n ≡ Some x → take (n + 1) xs ≡ take n xs ++ x ∷ []
one_more xs n x at =
    ap (λ (k : ℕ). take k xs) (add-one n) ∙ (take-suc xs n x (slice_get_within xs n x at) ∙ ap (λ (y : Exchange). take n xs ++ y ∷ []) (get_or_from_slice_get xs n x x at))

pub loop-place-preserved : goal.loop-place-preserved
loop-place-preserved c =
    let place = c.loop-place.place in
    one_more c.args.other.now.history place c.in-Some-Some.beside (sym c.in-Some-Some.ensures')
    ∙ (ap (λ (l : List Exchange). l ++ c.in-Some-Some.beside ∷ []) c.loop-place.invariant
    ∙ (ap (λ (x : Exchange). take place c.args.one.now.history ++ x ∷ []) (sym (c.is_same.ensures c.if-not-is_same.false))
    ∙ sym (one_more c.args.one.now.history place c.in-Some-Some.exchange (sym c.in-Some-Some.ensures))))
