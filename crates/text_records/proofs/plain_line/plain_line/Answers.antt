use Rattle.std.proofs.Common.{Option, subst, sym, ◌∙◌, IfSome}
use Rattle.text_records.proofs.Common.{false≢true, Reported, SpellsReported}
use Rattle.text_records.proofs.written.Canonical.{line_canonical}
use Rattle.text_records.proofs.written.PlainLines.{line_spelled, line_replied}
use Rattle.text_records.proofs.plain_line.plain_line.Goals as goal

pub returns-in-Some-quick_reported : goal.returns-in-Some-quick_reported
returns-in-Some-quick_reported c =
    let bytes = c.args.bytes.now in
    let event = c.in-Some.event in
    let text = c.in-Some.text.now in
    let reported = c.in-Some-quick_reported.reported in
    let end = c.in-Some-quick_reported.ensures in
    record {
      spells = line_replied c.args.kind c.args.version bytes event text reported c.in-Some.ensures end;
      canonical = λ told. line_canonical c.args.kind bytes event text reported c.in-Some.ensures end;
    }

pub returns-in-Some-2 : goal.returns-in-Some-2
returns-in-Some-2 c =
    let reported = subst (λ (o : Option Reported). IfSome o (SpellsReported c.args.version c.in-Some.text.now)) c.in-Some-2.is c.in_ok-reported.ensures in
    record {
      spells = line_spelled c.args.kind c.args.version c.args.bytes.now c.in-Some.event c.in-Some.text.now c.in-Some-2.reported c.in-Some.ensures reported;
      canonical = λ told. absurd (false≢true told);
    }
