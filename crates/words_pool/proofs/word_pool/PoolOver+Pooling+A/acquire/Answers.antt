use Rattle.std.proofs.Common.{◌≡◌, ap, arith}
use Rattle.words_pool.specs.Pools.{PoolId}
use Rattle.words_pool.proofs.Keeping.{may_come, may_come_by_swap}
use Rattle.words_pool.proofs.word_pool.PoolOver+Pooling+A.acquire.Goals as goal

pub swap_new_seat-found-requires : goal.swap_new_seat-found-requires
swap_new_seat-found-requires g c =
    let words = c.self.invariant.0.0 in
    let key = c.self.invariant.0.1 in
    let some = c.self.invariant.0.2 in
    (omega arith, may_come_by_swap c.self.inside.table.shared.key _ (omega arith))

pub load_new_seat-found-requires : goal.load_new_seat-found-requires
load_new_seat-found-requires g c =
    let words = c.self.invariant.0.0 in
    let some = c.self.invariant.0.2 in
    (omega arith, may_come c.self.inside.table.shared.key _)

pub walk_by_swaps-requires-clause-some : goal.walk_by_swaps-requires-clause-some
walk_by_swaps-requires-clause-some g c =
    let numbers : c.self.inside.numbers ≡ c.args.self.now.numbers = ap (λ (t : PoolId). t.numbers) c.self.view_is in
    let same : c.self.inside.table.shared.table_id.words ≡ c.args.self.now.table.words = ap (λ (t : PoolId). t.table.words) c.self.view_is in
    let words = c.self.invariant.0.0 in
    let some = c.self.invariant.0.2 in
    (omega arith, omega arith, omega arith)
