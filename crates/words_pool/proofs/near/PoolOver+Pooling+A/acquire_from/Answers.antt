use Rattle.std.proofs.Common.{◌≡◌, ◌-◌, ap, arith}
use Rattle.words_pool.proofs.Common.{PoolId}
use Rattle.words_pool.proofs.Keeping.{may_look_aside}
use Rattle.words_pool.proofs.near.PoolOver+Pooling+A.acquire_from.Goals as goal

pub load_new_seat-found-requires : goal.load_new_seat-found-requires
load_new_seat-found-requires g c =
    let numbers : c.self.inside.numbers ≡ c.args.self.now.numbers = ap (λ (t : PoolId). t.numbers) c.self.view_is in
    let words = c.self.invariant.0.0 in
    let hint = c.requires.hint in
    (omega arith, may_look_aside c.self.inside.table.shared.key _ (c.args.hint - 1))
