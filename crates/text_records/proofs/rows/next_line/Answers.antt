use Rattle.std.proofs.Common.{sym, ◌∙◌}
use Rattle.text_records.proofs.Common.{false≢true, option_copied}
use Rattle.text_records.proofs.Cut.{one_line, no_line}
use Rattle.text_records.proofs.rows.next_line.Goals as goal

pub returns-clause-lines : goal.returns-clause-lines
returns-clause-lines c = rw c.opened_line.ensures (one_line c.args.bytes.now c.cut.result.0.now (option_copied c.cut.result.1) c.cut.ensures.pieces (λ w. false≢true (sym c.if-is_end.false ∙ c.is_end.ensures.1 w)))

pub returns-then-is_end-clause-lines : goal.returns-then-is_end-clause-lines
returns-then-is_end-clause-lines c =
    let w = c.is_end.ensures.0 c.if-is_end.true in
    no_line c.args.bytes.now c.cut.result.0.now (option_copied c.cut.result.1) c.cut.ensures.pieces w.0 w.1
