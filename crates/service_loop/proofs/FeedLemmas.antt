-- lines of changes, one after another
use Rattle.std.proofs.Common.{◌≡◌, ◌∙◌, ◌+◌, ◌<◌, ◌++◌, ◌∷◌, List, ℕ, [], get_or, length, take, sym, ap}
use Rattle.std.proofs.lemmas.List.{append-nil, append_assoc, take_more}
use Rattle.service_loop.specs.WatchLines.{change_line, change_lines}
use Rattle.service_loop.specs.declared.change.Change.{Change}

-- one line more
lines_more : (xs : List Change) (y : Change) → change_lines (xs ++ y ∷ []) ≡ change_lines xs ++ change_line y
lines_more [] y = append-nil (change_line y)
lines_more (x ∷ xs) y = ap (λ (l : List ℕ). change_line x ++ l) (lines_more xs y) ∙ sym (append_assoc (change_line x) (change_lines xs) (change_line y))

-- and one more of these changes
pub lines_on : (out before : List ℕ) (xs : List Change) (at : ℕ) (d : Change) → before ≡ out ++ change_lines (take at xs) → at < length xs →
    before ++ change_line (get_or xs at d) ≡ out ++ change_lines (take (at + 1) xs)
lines_on out before xs at d is below = ap (λ (l : List ℕ). l ++ change_line (get_or xs at d)) is ∙ append_assoc out (change_lines (take at xs)) (change_line (get_or xs at d))
    ∙ ap (λ (l : List ℕ). out ++ l) (sym (lines_more (take at xs) (get_or xs at d))) ∙ ap (λ (l : List Change). out ++ change_lines l) (sym (take_more xs at d below))
