-- lines that are cut off, one after another
use Rattle.std.proofs.Common.{◌≡◌, ℕ, true, List, [], ◌∷◌, ◌++◌, map, refl, ap, ◌∙◌}
use Rattle.text_records.proofs.Common.{list_all, and_parts, pieces_from, has_no_lf, with_ends, pieces-cut}
use Rattle.text_records.specs.Records.{lines_from, lines_of, record_lines}
use Rattle.text_records.specs.Seals.{opened_line}

-- lines, each with its LF, are cut into these
pieces_of_lines : (ls : List (List ℕ)) → list_all has_no_lf ls ≡ true → pieces_from 10 [] (with_ends ls) ≡ ls ++ [] ∷ []
pieces_of_lines [] h = refl
pieces_of_lines (l ∷ ls) h =
    let parts = and_parts (has_no_lf l) (list_all has_no_lf ls) h in
    pieces-cut 10 [] l (with_ends ls) parts.0 ∙ ap (λ (k : List (List ℕ)). l ∷ k) (pieces_of_lines ls parts.1)

lines_whole : (ls : List (List ℕ)) → lines_of (ls ++ [] ∷ []) ≡ ls
lines_whole [] = refl
lines_whole (l ∷ ls) = from l ls
  where
    from : (p : List ℕ) (rest : List (List ℕ)) → lines_from p (rest ++ [] ∷ []) ≡ p ∷ rest
    from p [] = refl
    from p (q ∷ rest) = ap (λ (k : List (List ℕ)). p ∷ k) (from q rest)

pub lines_cut : (ls : List (List ℕ)) → list_all has_no_lf ls ≡ true → record_lines (with_ends ls) ≡ map opened_line ls
lines_cut ls h = ap (λ (pieces : List (List ℕ)). map opened_line (lines_of pieces)) (pieces_of_lines ls h) ∙ ap (map opened_line) (lines_whole ls)
