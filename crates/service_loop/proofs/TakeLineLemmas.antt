-- what a line says that takes a number
use Rattle.std.proofs.Common.{◌≡◌, ℕ, ◌==◌, cond, true, false, List, [], ◌∷◌, ◌++◌, None, refl}
use Rattle.text_lines.specs.Lines.{pieces_from}
use Rattle.service_loop.specs.TakeLines.{seconds_of}

-- two words behind an identity name no seconds
pub more_words : (word piece bytes : List ℕ) → seconds_of (word ∷ pieces_from 32 piece bytes) ≡ None
more_words word piece [] = refl
more_words word piece (b ∷ bs) = elim (b == 32) as (λ t. seconds_of (word ∷ cond t (piece ∷ pieces_from 32 [] bs) (pieces_from 32 (piece ++ b ∷ []) bs)) ≡ None) [
  | true ↦ refl
  | false ↦ more_words word (piece ++ b ∷ []) bs
]
