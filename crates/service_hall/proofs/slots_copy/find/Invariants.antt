use Rattle.std.proofs.Common.{◌≡◌, ◌+◌, drop, option_map}
use Rattle.model_pool.specs.Competitors.{index_of}
use Rattle.service_hall.proofs.slots_copy.find.Given as goal

abbrev pub invariant-loop-i : goal.invariant-loop-i
invariant-loop-i l = index_of l.id l.competitors ≡ option_map (λ k. l.i + k) (index_of l.id (drop l.i l.competitors))
