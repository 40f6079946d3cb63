use Rattle.std.proofs.Common.{◌≡◌, ap, sym, ◌∙◌, arith, []}
use Rattle.words_pool.proofs.Common.{step, lone, call_of, PoolId}
use mathlib.Core.Option.{none}
use Rattle.words_pool.proofs.Lining.{may_take_in_line, never}
use Rattle.words_pool.proofs.line_pool.PoolOver+Lining+A.take_from.Goals as goal

pub swap-found-requires : goal.swap-found-requires
swap-found-requires g c =
    let numbers : c.self.inside.numbers ≡ c.args.self.now.numbers = ap (λ (t : PoolId). t.numbers) c.self.view_is in
    let words = c.self.invariant.0.0 in
    let key = c.self.invariant.0.1 in
    let below = c.loop-place-test.true in
    let here = c.loop-place.invariant.here in
    let me : c.loop-place.seat.me ≡ (lone (call_of c.loop-place.seat.me.0) c.loop-place.seat.me.0.past, []) = (λ i. (here.view_is i, c.loop-place.invariant.slots i)) in (
      c.loop-place.invariant.ours ∙ sym (ap (λ (p : PoolId). p.table) c.self.view_is),
      omega arith,
      rw me (may_take_in_line c.self.inside.table.shared.key _ _ _ _ c.loop-place.place (omega arith) here.place_is (step 0 0 0 0 none) here.stage_is),
    )

pub load-requires : goal.load-requires
load-requires g c =
    let numbers : c.self.inside.numbers ≡ c.args.self.now.numbers = ap (λ (t : PoolId). t.numbers) c.self.view_is in
    let words = c.self.invariant.0.0 in
    let key = c.self.invariant.0.1 in
    let some = c.self.invariant.0.2 in
    let from = c.requires.range in
    let here = c.loop-place.invariant.here in
    let end = c.loop-place-test.false in
    let upto = c.loop-place.auto in
    let me : c.loop-place.seat.me ≡ (lone (call_of c.loop-place.seat.me.0) c.loop-place.seat.me.0.past, []) = (λ i. (here.view_is i, c.loop-place.invariant.slots i)) in (
      c.loop-place.invariant.ours ∙ sym (ap (λ (p : PoolId). p.table) c.self.view_is),
      omega arith,
      rw me (never c.self.inside.table.shared.key _ _ _ _ (step 0 0 0 0 none) here.stage_is (here.place_is ∙ omega arith)),
    )
