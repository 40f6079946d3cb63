use Rattle.std.proofs.Common.{ℕ, List, map, sym, subst}
use Rattle.text_records.specs.Seals.{opened_line}
use Rattle.text_checker.specs.Verdict.{IsSaid}
use Rattle.text_checker.proofs.records.Stages.{lines_taken}
use Rattle.text_checker.proofs.judge.Judge.verdict.Goals as goal

pub returns : goal.returns
returns c = λ seen h.
    subst (λ (l : List (List ℕ)). IsSaid l c.verdict_of.result) (sym (lines_taken seen c.args.self h)) (c.verdict_of.ensures _ (c.in_ok-end_last.ensures (map opened_line h.whole) h.stands))
