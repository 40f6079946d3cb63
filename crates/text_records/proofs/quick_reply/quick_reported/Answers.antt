use Rattle.std.proofs.Common.{refl, sym, ◌∙◌, codes}
use Rattle.text_records.specs.declared.reported.Reported.TheVariants as reported
use Rattle.text_records.proofs.JsonLemmas.{same_is}
use Rattle.text_records.proofs.QuickReplies.{word_spelled}
use Rattle.text_records.proofs.quick_reply.quick_reported.Goals as goal

pub returns-then-is_word : goal.returns-then-is_word
returns-then-is_word c = word_spelled c.args.text.now (codes "quiet") reported.Quiet (same_is _ _ (sym c.is_word.ensures ∙ c.if-is_word.true)) refl refl refl refl refl refl

pub returns-then-is_word-2 : goal.returns-then-is_word-2
returns-then-is_word-2 c = word_spelled c.args.text.now (codes "ok") reported.Ok (same_is _ _ (sym c.is_word-2.ensures ∙ c.if-is_word-2.true)) refl refl refl refl refl refl

pub returns-then-is_word-3 : goal.returns-then-is_word-3
returns-then-is_word-3 c = word_spelled c.args.text.now (codes "missed") reported.Missed (same_is _ _ (sym c.is_word-3.ensures ∙ c.if-is_word-3.true)) refl refl refl refl refl refl
