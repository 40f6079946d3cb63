use Rattle.text_records.proofs.cited.written.Lines.{record_is}
use Rattle.text_records.proofs.laws.law_of_written_records.Goals as goal

pub returns : goal.returns
returns c = record_is
