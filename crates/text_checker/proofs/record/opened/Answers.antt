use Rattle.std.proofs.Common.{ℕ, List, Option, MatchOption, sym, subst}
use Rattle.text_checker.proofs.Common.{Header, IsHeaderLine, LacksHeader}
use Rattle.text_checker.proofs.record.opened.Goals as goal

abbrev Reads : List ℕ → Option Header → Type 0
Reads head found = MatchOption found ((h : Header) → IsHeaderLine head h → ⊥) (λ h. IsHeaderLine head h)

pub returns-in-Some-2 : goal.returns-in-Some-2
returns-in-Some-2 c = record { head = c.in-Some.head.now; is = c.in-Some.ensures.lines; says = subst (Reads c.in-Some.head.now) c.in-Some-2.is c.in_ok-header.ensures }

pub returns-in-None : goal.returns-in-None
returns-in-None c = subst LacksHeader (sym c.in-Some.ensures.lines) (subst (Reads c.in-Some.head.now) c.in-None.is c.in_ok-header.ensures)
