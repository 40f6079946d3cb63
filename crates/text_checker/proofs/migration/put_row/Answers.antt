use Rattle.std.proofs.Common.{ℕ, List, Result, Ok, Err, ◌≡◌, ◌++◌, OnOk, sym, ap, ◌∙◌, subst}
use Rattle.std.proofs.lemmas.Result.{on_ok_weaker}
use Rattle.text_records.specs.Lines.{IsShown}
use Rattle.text_checker.proofs.migration.put_row.Goals as goal

pub returns-then-row : goal.returns-then-row
returns-then-row c = on_ok_weaker c.put_row.result (λ put x w shown. put ∙ ap (λ (l : List ℕ). c.args.text.now ++ l) (sym (c.requires c.if-row.true x w))) c.put_row.ensures

pub returns : goal.returns
returns c = on_ok_weaker c.put_line.result (λ put x w s. put x w (subst (λ (view : List (ℕ × ℕ)). IsShown x.reply view) (sym c.shown.ensures) s)) c.put_line.ensures
