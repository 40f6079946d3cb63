use Rattle.std.proofs.Common.{◌∙◌, append_assoc}
use Rattle.text_player.proofs.as_record.print_header.Goals as goal

pub returns-clause-text : goal.returns-clause-text
returns-clause-text g c =
    c.put-2.ensures ∙ rw (c.put_world.ensures.text, c.put.ensures, c.put_word-3.ensures.text, c.put_word-2.ensures.text, c.put_word.ensures.text) (simp append_assoc)
