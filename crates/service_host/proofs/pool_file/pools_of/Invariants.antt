use Rattle.std.proofs.Common.{map}
use Rattle.service_host.specs.PoolFile.{ListInOrder, NoneTwice, saying}
use Rattle.service_host.proofs.pool_file.pools_of.Given as goal

-- the pools are those that the lines list that were read
abbrev pub invariant-loop-line : goal.invariant-loop-line
invariant-loop-line l = ListInOrder l.grace (saying (map (λ x. x.now) l.yielded)) l.pools.items × NoneTwice l.pools.items
