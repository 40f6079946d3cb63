use Rattle.std.proofs.Common.{Bor, MatchOption, ◌≡◌, List, ℕ, Option, Some, inl, subst}
use Rattle.std.specs.Option.{option_copied}
use Rattle.text_records.specs.declared.header.Header.{Header}
use Rattle.text_records.specs.Records.{record_lines, lines_left}
use Rattle.text_checker.specs.Verdict.{HasHeader, LacksHeader}
use Rattle.tool_work.proofs.page_lemmas.PageLemmas.{is_page}
use Rattle.tool_work.proofs.page.showing.shown.Goals as goal

-- what is known of the first line and the others, where a header was read
found : (lines : List (List ℕ)) (o : Option (Header × Option (Bor (List ℕ)))) (header : Header) (rows : Option (Bor (List ℕ))) → o ≡ Some (header, rows) →
    MatchOption o (LacksHeader lines) (λ x. HasHeader lines x.0 (lines_left (option_copied x.1))) → HasHeader lines header (lines_left (option_copied rows))
found lines o header rows is h = subst (λ (x : Option (Header × Option (Bor (List ℕ)))). MatchOption x (LacksHeader lines) (λ y. HasHeader lines y.0 (lines_left (option_copied y.1)))) is h

pub returns-in_ok-page-in-Yes : goal.returns-in_ok-page-in-Yes
returns-in_ok-page-in-Yes c =
    let bytes = c.args.bytes.now in
    let header = c.in-Some.header in
    let rows = lines_left (option_copied c.in-Some.rows) in
    let h = found (record_lines bytes) c.in_ok-header.field-0 header c.in-Some.rows c.in-Some.is c.in_ok-header.ensures in
    let a = c.in_ok-verdict.ensures.gathered c.in-Yes.is c.in_ok-sheet.ensures in
    is_page bytes c.args.stretch header h.head rows h.is h.says c.judge_rows.new.gathered c.in_ok-page-in-Yes.page a c.in_ok-page-in-Yes.ensures

pub returns-in_default-2 : goal.returns-in_default-2
returns-in_default-2 c =
    let header = c.in-Some.header in
    let rows = lines_left (option_copied c.in-Some.rows) in
    let h = found (record_lines c.args.bytes.now) c.in_ok-header.field-0 header c.in-Some.rows c.in-Some.is c.in_ok-header.ensures in
    (inl (record { head = h.head; rows = rows; is = h.is; header = header; says = h.says; said = c.in_ok-verdict.ensures.said }), c.in_default-2.not-Yes)
