use Rattle.std.proofs.Common.{◌≡◌, ℕ, ap, sym, ◌∙◌, arith}
use Rattle.model_pool.specs.Sought.{sought_on}
use Rattle.service_hall.specs.Copies.{bits_in}
use Rattle.service_hall.proofs.slots_copy.sought.Goals as goal

pub returns-clause-number : goal.returns-clause-number
returns-clause-number c =
    let l = c.loop-left in
    let none : l.left ≡ 0 = omega (arith, c.loop-left-test.false) in
    let probes = l.invariant ∙ ap (λ (n : ℕ). sought_on n c.args.size l.stay (bits_in l.bits)) none ∙ c.number_at.ensures (bits_in l.bits) in
    sym (ap (λ r. r.0) probes)
