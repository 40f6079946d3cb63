use Rattle.std.proofs.Common.{◌≡◌, ◌∷◌, [], ℕ, List, refl, ap, ◌∙◌}
use Rattle.text_records.proofs.Common.{option_copied, pieces_left}
use Rattle.text_records.proofs.WordLemmas.{some_piece}
use Rattle.text_records.proofs.reply_text.plain.Goals as goal

pub returns-in-Some-more : goal.returns-in-Some-more
returns-in-Some-more c =
    let piece = some_piece 32 [] c.in-Some-more.field-0.now in
    let e : pieces_left 32 (option_copied c.args.others) ≡ c.cut.result.0.now ∷ piece.first ∷ piece.more =
    ap (λ o. pieces_left 32 (option_copied o)) c.in-Some.is ∙ c.cut.ensures.pieces ∙ ap (λ o. c.cut.result.0.now ∷ pieces_left 32 (option_copied o)) c.in-Some-more.is
    ∙ ap (λ (l : List (List ℕ)). c.cut.result.0.now ∷ l) piece.is in
    rw e refl
