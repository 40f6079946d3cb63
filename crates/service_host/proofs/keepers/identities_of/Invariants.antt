use Rattle.std.proofs.Common.{◌≡◌, take}
use Rattle.model_pool.specs.Competitors.{identities}
use Rattle.service_host.proofs.keepers.identities_of.Given as goal

abbrev pub invariant-loop-competitor : goal.invariant-loop-competitor
invariant-loop-competitor l = l.ids.items ≡ identities (take l.competitor-index l.competitors)
