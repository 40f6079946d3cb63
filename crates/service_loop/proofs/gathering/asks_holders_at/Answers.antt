use Rattle.std.proofs.Common.{arith}
use Rattle.service_loop.proofs.gathering.asks_holders_at.Goals as goal

pub bounds-seats-key : goal.bounds-seats-key
bounds-seats-key g c = c.if-key-seats.true

pub offset_bounds-seats-key : goal.offset_bounds-seats-key
offset_bounds-seats-key g c = (let lt = c.if-key-seats.true in omega (arith, lt))
