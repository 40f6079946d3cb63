use Rattle.std.proofs.Common.{◌+◌, ◌∷◌, refl}
use Rattle.std.proofs.lemmas.Result.{MatchResult-at_ok, MatchResult-at_err}
use Rattle.text_checker.proofs.records.Stages.{one_more_row}
use Rattle.text_checker.proofs.row_judge.RowJudge.take.Goals as goal

pub returns : goal.returns
returns c = (
  refl,
  one_more_row c.args.self.now
      (record { header = c.args.self.now.header; checker = c.taken.new.checker; number = c.args.self.now.number + 1 })
      c.args.row.now (MatchResult-at_ok _ _ _ c.in-Ok.is c.in_ok-verdict.ensures).takes refl refl,
)

pub returns-in-Err : goal.returns-in-Err
returns-in-Err c = λ rows so_far more.
    (let ends = MatchResult-at_err _ _ _ c.in-Err.is c.in_ok-verdict.ensures in
    ends.said _ _ (so_far (c.args.row.now ∷ more)))
