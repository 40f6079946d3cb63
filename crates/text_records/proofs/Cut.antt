-- the bytes of a record are cut into its first line and what is left
use Rattle.std.proofs.Common.{◌≡◌, ℕ, List, [], ◌∷◌, Option, Some, None, map, refl, ap, ◌∙◌}
use Rattle.text_lines.specs.Lines.{pieces_from, pieces_left}
use Rattle.text_records.specs.Records.{lines_from, lines_of, record_lines, lines_left}
use Rattle.text_records.specs.Seals.{opened_line}
use Rattle.text_records.proofs.WordLemmas.{HasPiece, some_piece}

-- a line, and those that are left
pub one_line : (bytes line : List ℕ) (rest : Option (List ℕ)) → pieces_from 10 [] bytes ≡ line ∷ pieces_left 10 rest → ((line ≡ []) × (rest ≡ None) → ⊥) → record_lines bytes ≡ opened_line line ∷ lines_left rest
one_line bytes line rest e full = ap (λ (pieces : List (List ℕ)). map opened_line (lines_of pieces)) e ∙ by line rest full
  where
    joined : (p : List ℕ) (pieces : List (List ℕ)) → HasPiece pieces → lines_from p pieces ≡ p ∷ lines_of pieces
    joined p [] h = absurd (let k = h.is in cc)
    joined p (q ∷ qs) h = refl

    by : (p : List ℕ) (o : Option (List ℕ)) → ((p ≡ []) × (o ≡ None) → ⊥) → map opened_line (lines_from p (pieces_left 10 o)) ≡ opened_line p ∷ lines_left o
    by [] None f = absurd (f (refl, refl))
    by (x ∷ xs) None f = refl
    by p (Some b) f = ap (map opened_line) (joined p (pieces_from 10 [] b) (some_piece 10 [] b))

pub no_line : (bytes line : List ℕ) (rest : Option (List ℕ)) → pieces_from 10 [] bytes ≡ line ∷ pieces_left 10 rest → line ≡ [] → rest ≡ None → record_lines bytes ≡ []
no_line bytes line rest e a b = ap (λ (pieces : List (List ℕ)). map opened_line (lines_of pieces)) (e ∙ (λ i. a i ∷ pieces_left 10 (b i)))
