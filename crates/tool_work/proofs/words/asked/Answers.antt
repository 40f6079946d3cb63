use Rattle.std.proofs.Common.{sym, subst, ℕ, List, Option, MatchOption}
use Rattle.tool_work.proofs.Common.{Ask, Row}
use Rattle.tool_work.specs.Asked.{IsAsked}
use Rattle.tool_work.proofs.AskLemmas.{both_met}
use Rattle.tool_work.proofs.words.asked.Goals as goal

pub returns : goal.returns
returns c =
    let met = both_met _ _ _ _ _ c.in_ok-name.ensures.name c.in_ok-name.ensures.rows in
    subst (λ (o : Option (List ℕ × List Row)). MatchOption c.asked_of.result ((a : Ask) → IsAsked o a → ⊥) (IsAsked o)) (sym met)
    c.asked_of.ensures
