use Rattle.std.proofs.Common.{◌≡◌, map, take}
use Rattle.model_pool.specs.stays.Stays.{gone_at}
use Rattle.model_pool.proofs.stays.stays.gone_since.Given as goal

abbrev pub invariant-loop-identity : goal.invariant-loop-identity
invariant-loop-identity l = l.stays.items ≡ map (gone_at l.tick) (take l.identity-index l.identities)
