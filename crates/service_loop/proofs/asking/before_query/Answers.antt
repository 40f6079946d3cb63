use Rattle.std.proofs.Common.{◌≡◌, ℕ, List, false, not, Some, take, refl, subst}
use Rattle.std.proofs.lemmas.List.{take_rest}
use Rattle.memchr.specs.Find.{IsFirstByte, is_byte}
use Rattle.service_loop.specs.Asking.{is_own, MayAsk}
use Rattle.service_loop.proofs.OwnLemmas.{own_next, starts_next}
use Rattle.service_loop.proofs.asking.before_query.Goals as goal

pub returns-else-not-may_ask-clause-asks : goal.returns-else-not-may_ask-clause-asks
returns-else-not-may_ask-clause-asks c = λ inside. subst MayAsk (take_rest c.args.bytes.now c.loop-at.at) (c.if-not-may_ask.ensures.asks refl)

pub returns-else-not-may_ask-clause-own : goal.returns-else-not-may_ask-clause-own
returns-else-not-may_ask-clause-own c = c.loop-at.invariant.own

pub returns-after-loop-at-clause-own : goal.returns-after-loop-at-clause-own
returns-after-loop-at-clause-own c = c.loop-at.invariant.own

pub loop-at-init : goal.loop-at-init
loop-at-init c = record { inside = c.first_look-at.ensures.inside; starts = c.first_look-at.ensures.starts; own = c.first_look-at.ensures.own }

pub loop-at-preserved : goal.loop-at-preserved
loop-at-preserved c =
    let at = c.loop-at.at in
    let bytes = c.args.bytes.now in
    let i = c.loop-at.invariant in
    let start = i.starts c.loop-at-test.true in
    let next = c.next_line-at.ensures.next in
    record {
      inside = c.next_line-at.ensures.inside.1;
      starts = λ lt. starts_next c.args.begins bytes at c.next_line-at.result start.whole next lt;
      own = own_next c.args.begins bytes (not c.args.begins) at c.next_line-at.result start.whole next i.own
          (subst (λ (l : List ℕ). (end : ℕ) → IsFirstByte (is_byte 10) l (Some end) → is_own (take end l) ≡ false) (take_rest bytes at) (c.if-not-may_ask.ensures.own refl));
    }
