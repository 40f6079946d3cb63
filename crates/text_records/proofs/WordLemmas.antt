-- what bytes are cut into
use Rattle.std.proofs.Common.{◌≡◌, ℕ, true, false, cond, eqb, List, [], ◌∷◌, ◌++◌, refl, option_map}
use Rattle.text_records.proofs.Common.{pieces_from, Saw, pairs_after, saw_of}

-- bytes have at least one piece, though it may be empty
pub record HasPiece (pieces : List (List ℕ)) : Type 0 where
  pub first : List ℕ
  pub more : List (List ℕ)
  pub is : pieces ≡ first ∷ more

pub some_piece : (c : ℕ) (piece bytes : List ℕ) → HasPiece (pieces_from c piece bytes)
some_piece c piece [] = record { first = piece; more = []; is = refl }
some_piece c piece (b ∷ bs) = elim (eqb b c) as (λ t. HasPiece (cond t (piece ∷ pieces_from c [] bs) (pieces_from c (piece ++ b ∷ []) bs))) [
  | true ↦ record { first = piece; more = pieces_from c [] bs; is = refl }
  | false ↦ some_piece c (piece ++ b ∷ []) bs
]

-- where there is a piece, a view is what the pieces write
pub saw_pieces : (pieces : List (List ℕ)) → HasPiece pieces → saw_of pieces ≡ option_map Saw (pairs_after 0 pieces)
saw_pieces [] h = absurd (let k = h.is in cc)
saw_pieces (w ∷ ws) h = refl
