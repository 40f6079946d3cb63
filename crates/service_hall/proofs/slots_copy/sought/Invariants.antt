use Rattle.std.proofs.Common.{◌≡◌}
use Rattle.model_pool.specs.Sought.{sought_on}
use Rattle.model_pool.specs.declared.stay.Stay.TheVariants.{Seeking}
use Rattle.service_hall.specs.Copies.{bits_in}
use Rattle.service_hall.proofs.slots_copy.sought.Given as goal

-- what is left of the probes gives what all of them give
abbrev pub invariant-loop-left : goal.invariant-loop-left
invariant-loop-left l = sought_on l.size l.size (Seeking l.next) (bits_in l.initial.bits) ≡ sought_on l.left l.size l.stay (bits_in l.bits)

abbrev pub decreases-loop-left : goal.decreases-loop-left
decreases-loop-left l = l.left
