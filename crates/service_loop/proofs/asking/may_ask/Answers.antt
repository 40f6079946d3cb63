use Rattle.std.proofs.Common.{◌≡◌, ◌∙◌, false, true, take, sym}
use Rattle.service_loop.specs.Asking.{is_own}
use Rattle.service_loop.proofs.OwnLemmas.{begins_cut, begins_other, first_other_line}
use Rattle.service_loop.proofs.asking.may_ask.Goals as goal
use Rattle.service_loop.proofs.asking.may_ask.Goals.{then-asks_first, else-asks_first}

pub returns-else-takes_first-clause-own : goal.returns-else-takes_first-clause-own
returns-else-takes_first-clause-own c = λ no end first. elim c.if-asks_first.branch as (λ _. is_own (take end c.args.bytes.now) ≡ false) [
  | then-asks_first w ↦ absurd (let t : true ≡ false = sym w.if-asks_first.true ∙ sym w.value-is ∙ c.if-takes_first.false in cc)
  | else-asks_first w ↦ first_other_line c.args.bytes.now end first (c.asks_first.ensures.none w.if-asks_first.false) (w.takes_first.ensures.none (sym w.value-is ∙ c.if-takes_first.false))
]

pub returns-then-not-begins-clause-own : goal.returns-then-not-begins-clause-own
returns-then-not-begins-clause-own c = λ no end first. begins_other (take end c.args.bytes.now) (begins_cut end c.args.bytes.now (sym c.if-not-begins.ensures.exact))
