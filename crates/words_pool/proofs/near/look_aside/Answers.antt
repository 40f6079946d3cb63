use Rattle.std.proofs.Common.{◌≡◌, arith, []}
use Rattle.words_pool.proofs.Common.{call_of, lone}
use mathlib.Core.Option.{none}
use Rattle.words_pool.proofs.Keeping.{may_look_aside_again}
use Rattle.words_pool.proofs.near.look_aside.Goals as goal

pub load-found-requires : goal.load-found-requires
load-found-requires c =
    let words = c.requires.table.0 in
    let key = c.requires.table.1 in
    let below = c.loop-place-test.true in
    let here = c.loop-place.invariant.here in
    let me : c.loop-place.seat.me ≡ (lone (call_of c.loop-place.seat.me.0) c.loop-place.seat.me.0.past, []) = (λ i. (here.view_is i, c.loop-place.invariant.ours.1 i)) in (
      c.loop-place.invariant.ours.0,
      omega arith,
      rw me (may_look_aside_again c.args.table.now.key _ _ _ _ c.loop-place.place 0 0 0 none here.stage_is),
    )
