use Rattle.text_records.proofs.record_line.line_of.Goals as goal

pub returns-in_default : goal.returns-in_default
returns-in_default c = λ l s. c.in_default.ensures s.asked s.replied s.shown s.texts
