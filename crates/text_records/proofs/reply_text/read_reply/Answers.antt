use Rattle.std.proofs.Common.{◌≡◌, ◌∷◌, [], ℕ, List, Option, Some, true, refl, sym, ap, ◌∙◌, option_map, codes}
use Rattle.text_records.proofs.Common.{option_copied, words, same_bytes, Saw, pieces_left, pairs_after, saw_of, reported_of_words}
use Rattle.text_records.proofs.WordLemmas.{some_piece, saw_pieces}
use Rattle.text_records.proofs.reply_text.read_reply.Goals as goal

pub returns-in-Some-2 : goal.returns-in-Some-2
returns-in-Some-2 c =
    let e : words c.args.text.now ≡ c.cut.result.0.now ∷ words c.in-Some.text.now = c.cut.ensures.pieces ∙ ap (λ o. c.cut.result.0.now ∷ pieces_left 32 (option_copied o)) c.in-Some.is in
    let is_saw : same_bytes c.cut.result.0.now (codes "saw") ≡ true = sym c.is_word.ensures ∙ c.if-not-is_word.false in
    let view : Some c.in-Some-2.view ≡ pairs_after 0 (words c.in-Some.text.now) = sym c.in-Some-2.is ∙ c.in_ok-view.ensures in
    let reported : reported_of_words (c.cut.result.0.now ∷ words c.in-Some.text.now) ≡ saw_of (words c.in-Some.text.now) = rw is_saw refl in
    ap (λ (o : Option (List (ℕ × ℕ))). option_map Saw o) view ∙ sym (ap reported_of_words e ∙ reported ∙ saw_pieces (words c.in-Some.text.now) (some_piece 32 [] c.in-Some.text.now))
