use Rattle.std.proofs.Common.{◌++◌, ◌∷◌, [], ℕ, List, OnOk, subst}
use Rattle.text_checker.proofs.Common.{StandsAfter}
use Rattle.text_checker.proofs.judge.judge_row.Goals as goal

pub returns : goal.returns
returns c =
    subst (λ (l : List ℕ). OnOk c.judge_line.result ((lines : List (List ℕ)) → StandsAfter lines c.args.stage.now → StandsAfter (lines ++ l ∷ []) c.judge_line.new.stage))
    c.opened_line.ensures c.judge_line.ensures
