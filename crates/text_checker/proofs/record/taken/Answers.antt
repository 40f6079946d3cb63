use Rattle.std.proofs.Common.{Option, subst, arith}
use Rattle.text_records.specs.declared.line.Row.{Row}
use Rattle.text_records.specs.RecordLine.{FindsRow, IsRowOf}
use Rattle.text_checker.proofs.Common.{Reason, TakesMore}
use Rattle.text_checker.proofs.records.Rows.{bad_row, row_at_fault}
use Rattle.text_checker.proofs.record.taken.Goals as goal

pub returns-then-number-ge-LINES_END : goal.returns-then-number-ge-LINES_END
returns-then-number-ge-LINES_END c = record {
  other = λ e. absurd (cc);
  said = λ rows more s. (let at = s.at in let end = c.if-number-ge-LINES_END.true in bad_row s (λ few. absurd (omega arith)));
}

pub returns-in_default : goal.returns-in_default
returns-in_default c = record {
  other = λ e. absurd (cc);
  said = λ rows more s. bad_row s (λ few. subst (FindsRow c.args.header.config.world c.args.header.version c.args.bytes.now) c.in_default.is c.in_ok-row.ensures);
}

pub returns-in-Some-2 : goal.returns-in-Some-2
returns-in-Some-2 c = record {
  other = λ e. absurd (cc);
  said = λ rows more s.
      row_at_fault s c.if-number-ge-LINES_END.false c.in-Some.row.line c.judge.new.self c.in_ok-reason.ensures
      (subst (FindsRow c.args.header.config.world c.args.header.version c.args.bytes.now) c.in-Some.is c.in_ok-row.ensures).says c.in-Some-2.is;
}

pub returns : goal.returns
returns c =
    let row : IsRowOf c.args.header.config.world c.args.header.version c.args.bytes.now c.in-Some.row = subst (FindsRow c.args.header.config.world c.args.header.version c.args.bytes.now) c.in-Some.is c.in_ok-row.ensures in
    record {
      takes = record {
        early = c.if-number-ge-LINES_END.false;
        says = row.says;
        taken = subst (λ (said : Option Reason). TakesMore c.in-Some.row.line c.args.checker.now said c.judge.new.self) c.in_default-2.is c.in_ok-reason.ensures;
      };
      canonical = row.canonical;
    }
