-- one byte more of a held line
use Rattle.std.proofs.Common.{◌≡◌, ℕ, ◌<◌, ◌≤◌, true, false, List, [], ◌∷◌, ◌++◌, length, take, sym, ap, ◌∙◌, inl, inr, arith, length-append}
use Rattle.text_lines.proofs.Common.{take-append-le, length-take-le, leb_tells, HeldLine, held}
use Rattle.std.proofs.Math.Seq.{take-length}

pub held-short : (line : List ℕ) → length line ≤ 100 → held line ≡ record { kept = line; too_long = false }
held-short line le =
    elim (leb_tells (length line) 100) [
      | inl e ↦ rw e.0
      | inr e ↦ absurd (omega arith)
    ]

pub held-long : (line : List ℕ) → 100 < length line → held line ≡ record { kept = take 100 line; too_long = true }
held-long line lt =
    elim (leb_tells (length line) 100) [
      | inl e ↦ absurd (omega arith)
      | inr e ↦ rw e.0
    ]

-- while there is room, the byte is kept
pub held-room : (line : List ℕ) (byte : ℕ) (h : HeldLine) → h ≡ held line → length h.kept < 100 → record { kept = h.kept ++ byte ∷ []; too_long = h.too_long } ≡ held (line ++ byte ∷ [])
held-room line byte h is lt =
    elim (leb_tells (length line) 100) [
      | inl e ↦
          let now : h ≡ record { kept = line; too_long = false } = is ∙ held-short line e.1 in
          let kept : h.kept ≡ line = ap (λ (w : HeldLine). w.kept) now in
          let short : length line < 100 = omega (arith, ap length kept) in
          let longer : length (line ++ byte ∷ []) ≤ 100 = omega (arith, length-append line (byte ∷ [])) in
          rw now (sym (held-short (line ++ byte ∷ []) longer))
      | inr e ↦
          let kept : h.kept ≡ take 100 line = ap (λ (w : HeldLine). w.kept) (is ∙ held-long line e.1) in
          absurd (omega (arith, ap length kept, length-take-le 100 line (omega arith)))
    ]

-- else it is passed over, and the line is too long
pub held-full : (line : List ℕ) (byte : ℕ) (h : HeldLine) → h ≡ held line → 100 ≤ length h.kept → record { kept = h.kept; too_long = true } ≡ held (line ++ byte ∷ [])
held-full line byte h is ge =
    elim (leb_tells (length line) 100) [
      | inl e ↦
          let kept : h.kept ≡ line = ap (λ (w : HeldLine). w.kept) (is ∙ held-short line e.1) in
          let full : length line ≡ 100 = omega (arith, ap length kept) in
          let longer : 100 < length (line ++ byte ∷ []) = omega (arith, length-append line (byte ∷ [])) in
          let in_front : 100 ≤ length line = omega arith in
          let front : take 100 (line ++ byte ∷ []) ≡ line = take-append-le 100 line (byte ∷ []) in_front ∙ ap (λ n. take n line) (sym full) ∙ take-length line in
          rw kept (sym (held-long (line ++ byte ∷ []) longer ∙ rw front))
      | inr e ↦
          let kept : h.kept ≡ take 100 line = ap (λ (w : HeldLine). w.kept) (is ∙ held-long line e.1) in
          let longer : 100 < length (line ++ byte ∷ []) = omega (arith, length-append line (byte ∷ [])) in
          let in_front : 100 ≤ length line = omega arith in
          let front : take 100 (line ++ byte ∷ []) ≡ take 100 line = take-append-le 100 line (byte ∷ []) in_front in
          rw kept (sym (held-long (line ++ byte ∷ []) longer ∙ rw front))
    ]
