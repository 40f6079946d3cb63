use Rattle.std.proofs.Common.{◌≡◌, false, take}
use Rattle.service_loop.specs.Gathering.{any_asks_holders}
use Rattle.service_loop.proofs.gathering.any_asks_holders.Given as goal

-- none of the seats so far asks
abbrev pub invariant-loop-key : goal.invariant-loop-key
invariant-loop-key g l = any_asks_holders (λ c. c.peek) (take l.key-index l.called) l.seats ≡ false
