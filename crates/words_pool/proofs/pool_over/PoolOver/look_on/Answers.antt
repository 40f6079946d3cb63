use Rattle.std.proofs.Common.{◌≡◌, ap, sym, ◌∙◌, arith, []}
use Rattle.words_pool.proofs.Common.{step, lone, call_of, PoolId}
use mathlib.Core.Option.{none}
use Rattle.words_pool.proofs.pool_over.PoolOver.look_on.Goals as goal

pub load-found-requires : goal.load-found-requires
load-found-requires g c =
    let numbers : c.self.inside.numbers ≡ c.args.self.now.numbers = ap (λ (t : PoolId). t.numbers) c.self.view_is in
    let words = c.self.invariant.0.0 in
    let key = c.self.invariant.0.1 in
    let below = c.loop-place-test.true in
    let here = c.loop-place.invariant.here in
    let me : c.loop-place.seat.me ≡ (lone (call_of c.loop-place.seat.me.0) c.loop-place.seat.me.0.past, []) = (λ i. (here.view_is i, c.loop-place.invariant.slots i)) in (
      c.loop-place.invariant.ours ∙ sym (ap (λ (p : PoolId). p.table) c.self.view_is),
      omega arith,
      rw me (c.self.invariant.1.looks c.self.inside.table.shared.key _ _ c.loop-place.place _ _ (step 0 0 0 0 none) (omega arith) here.stage_is here.place_is),
    )
