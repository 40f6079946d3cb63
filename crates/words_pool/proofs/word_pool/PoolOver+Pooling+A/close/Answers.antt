use Rattle.std.proofs.Common.{arith}
use Rattle.words_pool.proofs.Keeping.{may_look_aside}
use Rattle.words_pool.proofs.word_pool.PoolOver+Pooling+A.close.Goals as goal

pub load_new_seat-seat-requires : goal.load_new_seat-seat-requires
load_new_seat-seat-requires g c =
    let words = c.self.invariant.0.0 in
    let some = c.self.invariant.0.2 in
    (omega arith, may_look_aside c.self.inside.table.shared.key _ 0)
