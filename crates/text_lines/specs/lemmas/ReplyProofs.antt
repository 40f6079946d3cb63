-- the texts of replies
use Rattle.std.proofs.Common.{◌≡◌, ℕ, ◌+◌, ◌<◌, List, [], ◌∷◌, ◌++◌, length, take, get_or, sym, ap, ◌∙◌, append_assoc}
use Rattle.std.proofs.lemmas.List.{append-nil, take_more}
use Rattle.text_lines.specs.Replies.{pair_text, pair_words}

pair_words-push : (pairs : List (ℕ × ℕ)) (pair : ℕ × ℕ) → pair_words (pairs ++ pair ∷ []) ≡ pair_words pairs ++ pair_text pair
pair_words-push [] pair = append-nil (pair_text pair)
pair_words-push (first ∷ pairs) pair =
    ap (λ words. pair_text first ++ words) (pair_words-push pairs pair) ∙ sym (append_assoc (pair_text first) (pair_words pairs) (pair_text pair))

-- one pair more
pub pair_words-more : (pairs : List (ℕ × ℕ)) (i : ℕ) → i < length pairs → pair_words (take (i + 1) pairs) ≡ pair_words (take i pairs) ++ pair_text (get_or pairs i (0, 0))
pair_words-more pairs i lt = ap pair_words (take_more pairs i (0, 0) lt) ∙ pair_words-push (take i pairs) (get_or pairs i (0, 0))
