use Rattle.std.proofs.Common.{◌≡◌, ◌++◌, ◌/◌, ◌%◌, take, decimal, flat_map}
use Rattle.service_watch.proofs.page.put_seconds.Given as goal

-- the digits so far
abbrev pub invariant-loop-unit : goal.invariant-loop-unit
invariant-loop-unit l = l.page.items ≡ l.initial.page.items ++ flat_map (λ unit. decimal (l.micros / unit % 10)) (take l.unit-index l.initial.unit-items)
