use Rattle.std.proofs.Common.{◌≡◌, ◌+◌, true, false, not, get_or, sym, subst, ap, ◌∙◌, arith}
use Rattle.model_pool.proofs.Common.{Registers, TestAndSet, after_access}
use Rattle.model_pool.specs.Invariant.{AreSetFrom}
use Rattle.model_pool.specs.Acquired.{was_clear}
use Rattle.model_pool.proofs.Seeking.{got_bit, missed_bit, got_last, missed_from, set_from_more, set_from_set, set_again}
use Rattle.model_pool.proofs.pool.seek.Goals as goal

pub loop-bit-init : goal.loop-bit-init
loop-bit-init g c = record {
  missed = missed_from c.args.size c.args.first c.args.from c.args.bits.now c.requires.from.0 c.requires.from.1 c.requires.set;
  set = c.requires.set;
  kept = λ low below. below;
  low = c.requires.from.0;
  high = c.requires.from.1;
}

pub loop-bit-preserved : goal.loop-bit-preserved
loop-bit-preserved g c =
    let i = c.loop-bit.invariant in
    let got = rw c.unwrap-got.ensures at c.access.ensures.answer in
    let after : c.access.new.self ≡ after_access c.loop-bit.bits (TestAndSet c.loop-bit.bit) = rw c.unwrap-got.ensures at c.access.ensures.after in
    let set : false ≡ not (get_or c.loop-bit.bits.bits c.loop-bit.bit false) = sym c.if-was_clear.false ∙ c.was_clear.ensures ∙ ap was_clear got in
    let was : get_or c.loop-bit.bits.bits c.loop-bit.bit false ≡ true = grind arith in
    rw after (record {
      missed = missed_bit c.args.size c.args.first c.args.bits.now c.loop-bit.bit c.loop-bit.bits i.missed i.low c.loop-bit-test.true was;
      set = subst (λ (m : Registers (Unit {0})). AreSetFrom c.args.first (c.loop-bit.bit + 1) m) (sym (set_again c.loop-bit.bits c.loop-bit.bit was)) (set_from_more c.loop-bit.bits c.args.first c.loop-bit.bit i.set was);
      kept = λ low below. set_from_set c.loop-bit.bits 1 low c.loop-bit.bit (i.kept low below);
      low = omega (arith, i.low);
      high = omega (arith, c.loop-bit-test.true);
    })

pub returns-then-was_clear-clause-probes : goal.returns-then-was_clear-clause-probes
returns-then-was_clear-clause-probes g c =
    let got = rw c.unwrap-got.ensures at c.access.ensures.answer in
    let after : c.access.new.self ≡ after_access c.loop-bit.bits (TestAndSet c.loop-bit.bit) = rw c.unwrap-got.ensures at c.access.ensures.after in
    let clear : true ≡ not (get_or c.loop-bit.bits.bits c.loop-bit.bit false) = sym c.if-was_clear.true ∙ c.was_clear.ensures ∙ ap was_clear got in
    rw after (got_bit c.args.size c.args.first c.args.bits.now c.loop-bit.bit c.loop-bit.bits c.loop-bit.invariant.missed c.loop-bit-test.true (grind arith))

pub returns-then-was_clear-clause-set : goal.returns-then-was_clear-clause-set
returns-then-was_clear-clause-set g c =
    let after : c.access.new.self ≡ after_access c.loop-bit.bits (TestAndSet c.loop-bit.bit) = rw c.unwrap-got.ensures at c.access.ensures.after in
    rw after (set_from_set c.loop-bit.bits c.args.first c.loop-bit.bit c.loop-bit.bit c.loop-bit.invariant.set)

pub returns-then-was_clear-clause-kept : goal.returns-then-was_clear-clause-kept
returns-then-was_clear-clause-kept g c =
    let after : c.access.new.self ≡ after_access c.loop-bit.bits (TestAndSet c.loop-bit.bit) = rw c.unwrap-got.ensures at c.access.ensures.after in
    rw after (λ low below. set_from_set c.loop-bit.bits 1 low c.loop-bit.bit (c.loop-bit.invariant.kept low below))

pub returns-clause-probes : goal.returns-clause-probes
returns-clause-probes g c =
    got_last c.args.size c.args.first c.args.bits.now c.loop-bit.bit c.loop-bit.bits c.loop-bit.invariant.missed c.loop-bit.invariant.low c.loop-bit-test.false

pub returns-clause-set : goal.returns-clause-set
returns-clause-set g c = λ i from less. c.loop-bit.invariant.set i from (omega (arith, less, c.loop-bit-test.false))

pub returns-clause-kept : goal.returns-clause-kept
returns-clause-kept g c = c.loop-bit.invariant.kept
