use Rattle.std.proofs.Common.{◌≡◌, ◌∷◌, [], ℕ, List, refl, ap, ◌∙◌}
use Rattle.text_records.proofs.Common.{option_copied, pieces_from, pieces_left}
use Rattle.text_records.proofs.WordLemmas.{some_piece}
use Rattle.text_records.proofs.reply_text.pair.Goals as goal

pub returns-in-Some : goal.returns-in-Some
returns-in-Some c =
    let piece = some_piece 58 [] c.in-Some.field-0.now in
    let e : pieces_from 58 [] c.args.word.now ≡ c.cut.result.0.now ∷ c.cut-2.result.0.now ∷ piece.first ∷ piece.more =
    c.cut.ensures.pieces ∙ ap (λ o. c.cut.result.0.now ∷ pieces_left 58 (option_copied o)) c.in_ok-rest.was
    ∙ ap (λ (l : List (List ℕ)). c.cut.result.0.now ∷ l) (c.cut-2.ensures.pieces ∙ ap (λ o. c.cut-2.result.0.now ∷ pieces_left 58 (option_copied o)) c.in-Some.is
    ∙ ap (λ (l : List (List ℕ)). c.cut-2.result.0.now ∷ l) piece.is) in
    rw e refl
