use Rattle.std.proofs.Common.{◌≡◌, ◌∙◌, ap, sym, arith, []}
use Rattle.words_pool.proofs.Common.{step, call_of, lone, PoolId}
use mathlib.Core.Option.{none}
use Rattle.words_pool.proofs.Keeping.{may_come_back}
use Rattle.words_pool.proofs.near.PoolOver+Pooling+A.walk_below.Goals as goal

pub load-found-requires : goal.load-found-requires
load-found-requires g c =
    let words = c.self.invariant.0.0 in
    let some = c.self.invariant.0.2 in
    let here = c.requires.here.0 in
    let me : c.args.seat.me ≡ (lone (call_of c.args.seat.me.0) c.args.seat.me.0.past, []) = (λ i. (here.view_is i, c.requires.ours.1 i)) in (
      c.requires.ours.0 ∙ sym (ap (λ (p : PoolId). p.table) c.self.view_is),
      omega arith,
      rw me (may_come_back c.self.inside.table.shared.key _ _ _ _ (step 0 0 0 0 none) here.stage_is),
    )
