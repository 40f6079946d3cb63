-- the first line of some bytes, and what a run makes of it
use Rattle.std.proofs.Common.{◌≡◌, ℕ, ◌+◌, ◌<◌, ◌==◌, true, false, cond, not, List, [], ◌∷◌, ◌++◌, length, take, get_or, Some, Ok, Err, Result, refl, ap, ◌∙◌, arith, append_assoc, nat_lt}
use Rattle.text_lines.specs.lemmas.PieceProofs.{nowhere-lacks, passes_too}
use Rattle.text_player.proofs.Common.{list_all, append-nil, take_more, Bad, Command, WorldKind, nat_tests, and_parts, eqb-true, not-true, not_from_false, TooLong, NotPrintable, meaning, is_printable, command_in, words, Progress, with_line, after_meaning, after_line, after_bytes, has_no_lf}
use Rattle.text_player.proofs.cited.ProgressLemmas.{after_bytes-append}
use Rattle.memchr.specs.Find.{IsFirstByte, is_byte}

printable-no_lf : (b : ℕ) → is_printable b ≡ true → (b == 10) ≡ false
printable-no_lf b h = grind (arith, nat_tests)

pub means-none : (kind : WorldKind) (line : List ℕ) (c : Command) → meaning kind line ≡ Ok c → has_no_lf line ≡ true
means-none kind line c =
    elim (nat_lt 100 (length line)) as (λ t. cond t (Err TooLong) (cond (not (list_all is_printable line)) (Err NotPrintable) (command_in kind (words line))) ≡ Ok c → has_no_lf line ≡ true) [
      | true ↦ λ is. absurd cc
      | false ↦ elim (list_all is_printable line) as (λ t. list_all is_printable line ≡ t → cond (not t) (Err NotPrintable) (command_in kind (words line)) ≡ Ok c → has_no_lf line ≡ true) [
        | true ↦ λ all is. passes_too is_printable _ (λ b h. not_from_false (b == 10) (printable-no_lf b h)) line all
        | false ↦ λ all is. absurd cc
      ] refl
    ]

-- the first LF stands there
pub record EndsLine (bytes : List ℕ) (end : ℕ) : Type 0 where
  pub inside : end < length bytes
  pub lf : get_or bytes end 0 ≡ 10
  pub none : has_no_lf (take end bytes) ≡ true

pub found-line : (bytes : List ℕ) (end : ℕ) → IsFirstByte (is_byte 10) bytes (Some end) → EndsLine bytes end
found-line bytes end first = record { inside = first.0.high; lf = eqb-true _ _ first.1; none = nowhere-lacks 10 bytes end first.0.before }

module _ (kind : WorldKind) where
  -- bytes with no LF make the line longer
  pub after_bytes-part : (p : Progress) (bytes : List ℕ) → p.over ≡ false → has_no_lf bytes ≡ true → after_bytes kind p bytes ≡ with_line p (p.line ++ bytes)
  after_bytes-part p [] on h = rw append-nil refl
  after_bytes-part p (b ∷ bs) on h =
      let parts = and_parts (not (b == 10)) (has_no_lf bs) h in
      let other : (b == 10) ≡ false = not-true (b == 10) parts.0 in
      rw (on, other) (after_bytes-part (record { line = p.line ++ b ∷ []; asked = p.asked; over = false }) bs refl parts.1 ∙ simp append_assoc)

  -- and an LF after them ends it
  pub after_bytes-whole : (p : Progress) (bytes : List ℕ) (end : ℕ) → p.over ≡ false → EndsLine bytes end → after_bytes kind p (take (end + 1) bytes) ≡ after_line kind (with_line p (p.line ++ take end bytes))
  after_bytes-whole p bytes end on line =
      ap (after_bytes kind p) (take_more bytes end 0 line.inside) ∙ after_bytes-append kind p (take end bytes) (get_or bytes end 0 ∷ []) ∙ rw (after_bytes-part p (take end bytes) on line.none, line.lf, on) refl

  -- so where the line had not begun, its meaning is that of these bytes
  pub after_bytes-first : (p : Progress) (bytes : List ℕ) (end : ℕ) (m : Result Command Bad) → p.over ≡ false → p.line ≡ [] → EndsLine bytes end → meaning kind (take end bytes) ≡ m → after_bytes kind p (take (end + 1) bytes) ≡ after_meaning p m
  after_bytes-first p bytes end m on empty line is = after_bytes-whole p bytes end on line ∙ rw (empty, is) refl
