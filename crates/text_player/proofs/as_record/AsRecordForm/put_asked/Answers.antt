use Rattle.std.proofs.Common.{◌∙◌, append_assoc}
use Rattle.text_player.proofs.as_record.AsRecordForm.put_asked.Goals as goal

pub returns-clause-text : goal.returns-clause-text
returns-clause-text g c = c.put_replied.ensures.text ∙ rw (c.put-2.ensures, c.requires.line, c.put.ensures) (simp append_assoc)
