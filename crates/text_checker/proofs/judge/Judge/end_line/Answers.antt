use Rattle.std.proofs.Common.{rules, ◌≡◌, ◌∷◌, ◌++◌, [], ℕ, List, sym, ap, ◌∙◌, subst}
use Rattle.text_records.specs.Seals.{opened_line}
use Rattle.text_checker.proofs.Common.{on_ok_weaker, StandsAfter}
use Rattle.text_checker.proofs.records.Stages.{none_held}
use Rattle.text_checker.proofs.judge.Judge.end_line.Goals as goal

pub returns-then-is_empty-clause-stands : goal.returns-then-is_empty-clause-stands
returns-then-is_empty-clause-stands c =
    let j = c.args.self.now in
    let none : j.held.items ≡ [] = none_held j.held.items (search rules) in
    let same : c.args.line.now ≡ j.held.items ++ c.args.line.now = ap (λ (l : List ℕ). l ++ c.args.line.now) (sym none) in
    on_ok_weaker c.judge_row.result (λ f. λ lines h. subst (λ (l : List ℕ). StandsAfter (lines ++ opened_line l ∷ []) c.judge_row.new.stage) same (f lines h)) c.judge_row.ensures

pub returns-clause-held : goal.returns-clause-held
returns-clause-held c = on_ok_weaker c.judge_row-judged.result (λ _. c.clear.ensures.items) c.judge_row-judged.ensures

pub returns-clause-stands : goal.returns-clause-stands
returns-clause-stands c =
    let same : c.deref.result.now ≡ c.args.self.now.held.items ++ c.args.line.now = c.deref.ensures.value ∙ c.in_ok-extend_from_slice.ensures.items in
    on_ok_weaker c.judge_row-judged.result (λ f lines h. subst (λ (l : List ℕ). StandsAfter (lines ++ opened_line l ∷ []) c.judge_row-judged.new.stage) same (f lines h)) c.judge_row-judged.ensures
