use Rattle.std.proofs.Common.{Option, subst}
use Rattle.text_records.specs.declared.line.Row.{Row}
use Rattle.text_records.specs.RecordLine.{FindsRow}
use Rattle.text_records.proofs.record_line.read_line.Goals as goal

pub returns-in-Some : goal.returns-in-Some
returns-in-Some c = (subst (FindsRow c.args.kind c.args.version c.args.bytes.now) c.in-Some.is c.in_ok-row.ensures).says
