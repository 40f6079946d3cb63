use Rattle.std.proofs.Common.{◌∙◌, append_assoc}
use Rattle.text_player.proofs.as_record.AsRecordForm.put_answered.Goals as goal

pub returns-clause-text : goal.returns-clause-text
returns-clause-text g c = c.put_replied.ensures.text ∙ rw (c.print_event.ensures.text, c.put.ensures) (simp append_assoc)
