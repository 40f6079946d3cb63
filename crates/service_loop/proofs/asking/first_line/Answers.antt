use Rattle.service_loop.proofs.OwnLemmas.{own_first, starts_next}
use Rattle.std.proofs.Common.{◌≡◌, not, Bool, true, sym, subst, take, refl}
use Rattle.text_lines.specs.Lines.{whole_lines}
use Rattle.service_loop.specs.Asking.{none_own}
use Rattle.service_loop.specs.Reported.{behind}
use Rattle.service_loop.proofs.asking.first_line.Goals as goal

pub returns-clause-starts : goal.returns-clause-starts
returns-clause-starts c = λ lt. starts_next c.args.begins c.args.bytes.now 0 c.next_line.result refl c.next_line.ensures.next lt

pub returns-clause-own : goal.returns-clause-own
returns-clause-own c = subst (λ (b : Bool). none_own (behind (not b) (whole_lines (take c.next_line.result c.args.bytes.now))) ≡ true) (sym c.if-begins.false) (own_first c.args.begins c.args.bytes.now c.next_line.result c.next_line.ensures.next)
