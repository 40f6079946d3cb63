use Rattle.std.proofs.Common.{Option, subst, IfSome}
use Rattle.text_records.proofs.Common.{false≢true, Line, IsEventLine}
use Rattle.text_records.specs.declared.line.Row.{Row}
use Rattle.text_records.specs.PlainLine.{SpellsRow}
use Rattle.text_records.specs.RecordLine.{FindsLine}
use Rattle.text_records.proofs.record_line.read_row.Goals as goal

pub returns-in-Some : goal.returns-in-Some
returns-in-Some c =
    let row = subst (λ (o : Option Row). IfSome o (SpellsRow c.args.kind c.args.version c.args.bytes.now)) c.in-Some.is c.in_ok-row.ensures in
    let s = row.spells in
    record {
      says = record { short = c.if-bytes-gt-LINE_MOST.false; value = s.value; json = s.json; says = s.says };
      canonical = row.canonical;
    }

pub returns-in-Some-2 : goal.returns-in-Some-2
returns-in-Some-2 c = record {
  says = subst (FindsLine (IsEventLine c.args.kind c.args.version c.args.bytes.now)) c.in-Some-2.is c.in_ok-line.ensures;
  canonical = λ told. absurd (false≢true told);
}
