use Rattle.std.proofs.Common.{◌≡◌, ◌++◌, take, drop, sym, ap, ◌∙◌, arith}
use Rattle.std.proofs.lemmas.List.{take-append-drop}
use Rattle.text_records.proofs.JsonLemmas.{same_is}
use Rattle.text_records.proofs.QuickReplies.{rest_of-slice}
use Rattle.text_records.proofs.written.PlainLines.{close}
use Rattle.text_records.proofs.quick_reply.last_number.Goals as goal

pub returns : goal.returns
returns c =
    let text = c.args.text.now in
    let count = c.in_ok-number.count in
    let n = c.in_ok-number.ensures in
    let inside = n.inside in
    let ends : drop count text ≡ close = sym (rest_of-slice text count (omega arith)) ∙ same_is _ _ (sym c.is_word.ensures ∙ c.if-not-is_word.false) in
    record {
      digits = take count text;
      written = sym (take-append-drop count text) ∙ ap (λ l. take count text ++ l) ends;
      are_digits = n.digits;
      number = n.number;
    }
