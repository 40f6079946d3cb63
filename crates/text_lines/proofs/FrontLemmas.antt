-- beginnings that are the same
use Rattle.std.proofs.Common.{◌≡◌, ℕ, ◌+◌, ◌≤◌, List, ◌++◌, length, take, drop, sym, ap, ◌∙◌}
use Rattle.std.proofs.Math.Seq.{take-add}
use Rattle.text_lines.specs.Front.{AreAlike}

-- four more that are the same
pub alike-four : (bytes front : List ℕ) (at : ℕ) → AreAlike bytes front at → at + 4 ≤ length front → take 4 (drop at bytes) ≡ take 4 (drop at front) → AreAlike bytes front (at + 4)
alike-four bytes front at so more four = record {
  within = more;
  alike = take-add at 4 bytes ∙ ap (λ t. t ++ take 4 (drop at bytes)) so.alike ∙ ap (λ t. take at front ++ t) four ∙ sym (take-add at 4 front);
}
