use Rattle.std.proofs.Common.{◌≡◌, ◌++◌, ℕ, List, take, drop, Ok, sym, ap, ◌∙◌, arith}
use Rattle.std.proofs.lemmas.List.{take-append-drop}
use Rattle.text_records.proofs.QuickReplies.{rest_of-slice, words_plain}
use Rattle.text_records.proofs.written.PlainLines.{front, to_reply}
use Rattle.text_records.proofs.plain_line.plain_event.Goals as goal

pub returns : goal.returns
returns c =
    let text = c.in_ok-text.text.now in
    let end = c.in_ok-command.end in
    let asked = take end text in
    let before = c.in_ok-command.ensures in
    let inside = before.inside in
    let past : drop end text ≡ to_reply ++ c.in_ok-after_front.field-0.now = sym (rest_of-slice text end (omega arith)) ∙ c.in_ok-after_front.ensures.rest in
    let all : text ≡ asked ++ (to_reply ++ c.in_ok-after_front.field-0.now) = sym (take-append-drop end text) ∙ ap (λ (l : List ℕ). asked ++ l) past in
    record {
      asked = asked;
      written = c.in_ok-text.ensures.rest ∙ ap (λ (l : List ℕ). front ++ l) all;
      plain = words_plain asked before.of_words;
      means = before.means ∙ ap Ok c.in-Event.is;
    }
