use Rattle.std.proofs.Common.{◌∙◌, append_assoc}
use Rattle.text_player.proofs.as_record.put_any_replied.Goals as goal

pub returns-clause-text : goal.returns-clause-text
returns-clause-text g c =
    c.put-3.ensures ∙ rw (c.put_name_view.ensures.text, c.put-2.ensures, c.print_words.ensures.text, c.put.ensures) (simp append_assoc)
