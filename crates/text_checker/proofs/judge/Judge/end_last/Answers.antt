use Rattle.std.proofs.Common.{rules, ◌≡◌, ◌∷◌, ◌++◌, [], ℕ, List, subst}
use Rattle.text_records.specs.Seals.{opened_line}
use Rattle.text_checker.proofs.Common.{on_ok_weaker, StandsAfter}
use Rattle.text_checker.proofs.records.Stages.{a_last_line}
use Rattle.text_checker.proofs.judge.Judge.end_last.Goals as goal

pub returns : goal.returns
returns c =
    let j = c.args.self.now in
    let some : j.held.items ≡ [] → ⊥ = λ none. absurd (search rules) in
    on_ok_weaker c.judge_row.result (λ f. λ lines h. a_last_line lines j.held.items c.judge_row.new.stage some (subst (λ (l : List ℕ). StandsAfter (lines ++ opened_line l ∷ []) c.judge_row.new.stage) c.deref.ensures.value (f lines h))) c.judge_row.ensures
