use Rattle.std.proofs.Common.{◌≡◌, ◌++◌, ℕ, List, sym, ap, ◌∙◌}
use Rattle.text_records.proofs.JsonLemmas.{same_is}
use Rattle.text_records.proofs.written.PlainLines.{to_view, close}
use Rattle.text_records.proofs.plain_line.plain_end.Goals as goal

pub returns-then-is_word : goal.returns-then-is_word
returns-then-is_word c =
    let r = c.split_plain.result.0.now in
    let last : c.split_plain.result.1.now ≡ close = same_is _ _ (sym c.is_word.ensures ∙ c.if-is_word.true) in
    record { written = c.split_plain.ensures.whole ∙ ap (λ (l : List ℕ). r ++ l) last; plain = c.split_plain.ensures.plain; plain_view = tt }

pub returns : goal.returns
returns c =
    let r = c.split_plain.result.0.now in
    let v = c.split_plain-2.result.0.now in
    let last : c.split_plain-2.result.1.now ≡ close = same_is _ _ (sym c.is_word-2.ensures ∙ c.if-not-is_word.false) in
    let beside : c.in_ok-after_front.field-0.now ≡ v ++ close = c.split_plain-2.ensures.whole ∙ ap (λ (l : List ℕ). v ++ l) last in
    let ends : c.split_plain.result.1.now ≡ to_view ++ (v ++ close) = c.in_ok-after_front.ensures.rest ∙ ap (λ (l : List ℕ). to_view ++ l) beside in
    record { written = c.split_plain.ensures.whole ∙ ap (λ (l : List ℕ). r ++ l) ends; plain = c.split_plain.ensures.plain; plain_view = c.split_plain-2.ensures.plain }
