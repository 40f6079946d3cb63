use Rattle.std.proofs.Common.{◌≡◌, drop}
use Rattle.model_pool.specs.Competitors.{stay_of}
use Rattle.service_hall.proofs.slots_copy.stay_of.Given as goal

abbrev pub invariant-loop-competitor : goal.invariant-loop-competitor
invariant-loop-competitor l = stay_of l.id l.competitors ≡ stay_of l.id (drop l.competitor-index l.competitors)
