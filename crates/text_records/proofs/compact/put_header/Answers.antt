use Rattle.std.proofs.Common.{◌∙◌, append_assoc}
use Rattle.std.proofs.lemmas.Result.{on_ok_weaker}
use Rattle.text_records.proofs.compact.put_header.Goals as goal

pub returns : goal.returns
returns c =
    on_ok_weaker c.put-2.result
    (λ last. last ∙ rw (c.in_ok-put_world.ensures, c.in_ok-put.ensures, c.in_ok-put_word-3.ensures, c.in_ok-put_word-2.ensures, c.in_ok-put_word.ensures) (simp append_assoc)) c.put-2.ensures
