use Rattle.std.proofs.Common.{ℕ, List, Result, Ok, Err, IfOk, inl}
use Rattle.text_checker.proofs.Common.{option_copied, Header, lines_left, record_lines, Verdict, HasHeader, IsSaid, IsSaidOfRows}
use Rattle.text_checker.proofs.records.Gathered.{header_found}
use Rattle.text_checker.proofs.record.judge_record.Goals as goal

said : {E : Type 0} (lines : List (List ℕ)) (header : Header) (rows : List (List ℕ)) → HasHeader lines header rows → (r : Result Verdict E) → IfOk r (IsSaidOfRows header rows) → IfOk r (IsSaid lines)
said lines header rows h (Ok v) s = inl (record { head = h.head; rows = rows; is = h.is; header = header; says = h.says; said = s })
said lines header rows h (Err x) s = tt

pub returns-in-Some : goal.returns-in-Some
returns-in-Some c =
    let lines = record_lines c.args.bytes.now in
    said lines c.in-Some.header (lines_left (option_copied c.in-Some.rows)) (header_found lines c.in_ok-header.field-0 c.in-Some.header c.in-Some.rows c.in-Some.is c.in_ok-header.ensures) c.judge_rows.result c.judge_rows.ensures.said
