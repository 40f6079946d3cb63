-- The rule of a book, and what its step tells.
use Rattle.std.specs.Prelude.{ℕ, ◌≡◌, ◌==◌, ◌<◌, true, List, [], ◌∷◌, ◌++◌, length, MatchBool}
use mathlib.Core.List.{IsPrefix}
use Rattle.logbook.specs.Pages.{Cell, Step, View, Book, Named}

-- the first word is the length of the history. A book has two words, of which this one leaves the second at 0
pub record IsKept {E : Type 0} (cells : List Cell) (log : List E) : Type 0 where
  pub words : cells ≡ (length log, true) ∷ (0, true) ∷ []

abbrev pub head_of : Book → Named
head_of b = record { tracked = true; key = 0; book = b }

-- ys begins with xs, and goes on
abbrev pub IsLonger : {E : Type 0} → List E → List E → Type 0
IsLonger xs ys = IsPrefix xs ys × (length xs < length ys)

-- the entry was added to all that had been seen; or the history was longer, and was seen
abbrev pub Adds : {E : Type 0} → Step E → View E ℕ → ℕ → View E ℕ → Type 0
Adds s v found w = MatchBool (found == s.old) (w.0 ≡ v.0 ++ s.ask ∷ []) (length w.0 ≡ found)
