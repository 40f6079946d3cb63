use Rattle.std.proofs.Common.{inl, sym, subst}
use Rattle.text_checker.proofs.Common.{option_copied, record_lines, lines_left, IsMigratedTo}
use Rattle.text_checker.proofs.records.Gathered.{header_found}
use Rattle.text_checker.proofs.records.Migrated.{migrates}
use Rattle.text_checker.proofs.migrating.migrated.Goals as goal

pub returns-in-Yes : goal.returns-in-Yes
returns-in-Yes c =
    let bytes = c.args.bytes.now in
    let header = c.in-Some.header in
    let rows = lines_left (option_copied c.in-Some.rows) in
    let h = header_found (record_lines bytes) c.in_ok-header.field-0 header c.in-Some.rows c.in-Some.is c.in_ok-header.ensures in
    let a = c.in_ok-verdict.ensures.gathered c.in-Yes.is c.in_ok-migration.ensures in
    subst (IsMigratedTo bytes) (sym c.into_text.ensures) (migrates header h.head h.says rows c.judge_rows.new.gathered a bytes h.is)

pub returns-in_default-2 : goal.returns-in_default-2
returns-in_default-2 c =
    let header = c.in-Some.header in
    let rows = lines_left (option_copied c.in-Some.rows) in
    let h = header_found (record_lines c.args.bytes.now) c.in_ok-header.field-0 header c.in-Some.rows c.in-Some.is c.in_ok-header.ensures in
    (inl (record { head = h.head; rows = rows; is = h.is; header = header; says = h.says; said = c.in_ok-verdict.ensures.said }), c.in_default-2.not-Yes)
