use Rattle.std.proofs.Common.{rules, ◌≡◌, Some, Ok, not, ◌==◌, refl, sym, ap, ◌∙◌, arith}
use Rattle.model_pool.proofs.Common.{after_access, Settled, IsWithin, leave_access, stay_of, number_answer, Left, PoolState}
use Rattle.std.proofs.lemmas.List.Elements.{All-filter}
use Rattle.model_pool.specs.Invariant.{AreSetBelow}
use Rattle.model_pool.proofs.Seeking.{set_below_leave}
use Rattle.model_pool.proofs.CallLemmas.{settled_by, unsettled_after}
use Rattle.model_pool.proofs.LocalityLemmas.{leave_local, leave_stands}
use Rattle.model_pool.proofs.cited.PoolKeeps.{pool_law, pool_proved}
use Rattle.model_pool.proofs.pool.Pool.leave.Goals as goal

pub returns-in_err-number-clause-after : goal.returns-in_err-number-clause-after
returns-in_err-number-clause-after g c =
    let state = unsettled_after c.args.self.now c.args.id c.in_err-number.field-0.0 c.in_err-number.ensures.answer in
    pool_proved.call c.args.self.now c.args.self.now (Left c.args.id c.from_residual.result) state (search rules)

pub returns-in_err-number-clause-stands_alike : goal.returns-in_err-number-clause-stands_alike
returns-in_err-number-clause-stands_alike g c = λ other h.
    let state = unsettled_after c.args.self.now c.args.id c.in_err-number.field-0.0 c.in_err-number.ensures.answer in
    ap (λ (w : PoolState). stay_of c.args.id w.competitors) state ∙ leave_stands c.args.id c.args.self.now other h

pub invariant_of-self : goal.invariant_of-self
invariant_of-self g c =
    let number = c.in_ok-number.number in
    let low = c.min-self-inside.result in
    let least = c.min-self-inside.ensures in
    let access : c.leave_access-access.result ≡ leave_access c.self.inside.size (Settled number) = c.leave_access-access.ensures in
    let bits : c.access.new.self ≡ after_access c.self.inside.bits (leave_access c.self.inside.size (Settled number)) = rw (c.unwrap.ensures, access) at c.access.ensures.after in
    let before : AreSetBelow low c.self.inside.bits = λ i from less. c.self.invariant.below i from (omega (arith, less, least)) in
    let then : AreSetBelow low c.access.new.self = rw bits (set_below_leave c.self.inside.bits low c.self.inside.size number (omega (arith, least)) before) in
    rw c.remove.ensures (record {
      first = c.self.invariant.first;
      last = c.self.invariant.last;
      top = c.self.invariant.top;
      low_first = omega (arith, least, c.self.invariant.low_first, c.in_ok-number.ensures.range.0);
      low_last = omega (arith, least, c.self.invariant.low_last);
      below = then;
      stays = All-filter (λ x. not (x.identity == c.args.id)) (λ x. IsWithin c.self.inside.size x.stay) c.self.inside.competitors.competitors c.self.invariant.stays;
    })

pub returns-clause-state : goal.returns-clause-state
returns-clause-state g c =
    let here = c.remove.ensures in
    let k : c.self.inside.competitors.most ≡ c.args.self.now.most = ap (λ w. w.most) c.self.view_is in
    let v : c.self.inside.competitors.competitors ≡ c.args.self.now.competitors = ap (λ w. w.competitors) c.self.view_is in
    let z : c.self.inside.size ≡ c.args.self.now.size = ap (λ w. w.size) c.self.view_is in
    let m : c.self.inside.bits ≡ c.args.self.now.bits = ap (λ w. w.bits) c.self.view_is in
    let access : c.leave_access-access.result ≡ leave_access c.self.inside.size (Settled c.in_ok-number.number) = c.leave_access-access.ensures in
    let bits : c.access.new.self ≡ after_access c.args.self.now.bits (leave_access c.args.self.now.size (Settled c.in_ok-number.number)) = rw (c.unwrap.ensures, access, m, z) at c.access.ensures.after in
    let s : stay_of c.args.id c.args.self.now.competitors ≡ Some (Settled c.in_ok-number.number) = settled_by (stay_of c.args.id c.args.self.now.competitors) c.in_ok-number.number (sym c.in_ok-number.ensures.answer) in
    rw s (rw (here, bits, k, z, v) refl)

pub returns-clause-after : goal.returns-clause-after
returns-clause-after g c =
    pool_proved.call c.args.self.now _ (Left c.args.id (Ok c.in_ok-number.number)) (returns-clause-state g c) c.in_ok-number.ensures.answer

pub returns-clause-local : goal.returns-clause-local
returns-clause-local g c =
    let reply : Ok c.in_ok-number.number ≡ number_answer c.args.self.now c.args.id = c.in_ok-number.ensures.answer in
    rw (returns-clause-state g c, reply) (leave_local c.args.id c.args.self.now)

pub returns-clause-stands_alike : goal.returns-clause-stands_alike
returns-clause-stands_alike g c = λ other h. ap (λ (w : PoolState). stay_of c.args.id w.competitors) (returns-clause-state g c) ∙ leave_stands c.args.id c.args.self.now other h

pub returns-in_err-number-clause-law : goal.returns-in_err-number-clause-law
returns-in_err-number-clause-law g c = pool_law _

pub returns-clause-law : goal.returns-clause-law
returns-clause-law g c = pool_law _
