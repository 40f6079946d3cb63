use Rattle.std.proofs.Common.{refl}
use Rattle.text_checker.proofs.records.Rows.{no_row}
use Rattle.text_checker.proofs.row_judge.RowJudge.new.Goals as goal

pub returns : goal.returns
returns c = (refl, λ left. no_row c.args.header left c.in_ok-checker.checker c.in_ok-checker.ensures)
