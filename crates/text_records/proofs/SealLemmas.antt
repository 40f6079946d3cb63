-- sealed lines, and what they hold
use Rattle.std.proofs.Common.{◌≡◌, ◌==◌, ◌⊎◌, inl, inr, ℕ, zero, suc, ◌+◌, ◌-◌, ◌/◌, ◌%◌, ◌≤◌, ◌<◌, Bool, true, false, not, List, [], ◌∷◌, ◌++◌, length, take, drop, map, Option, Some, None, codes, refl, ap, sym, subst, ◌∙◌, arith, append_assoc, get_or, length-append, if◌then◌else◌, slice_index}
use Rattle.std.proofs.lemmas.List.{append-nil, append_cancel_left, map-append}
use Rattle.std.proofs.Math.Seq.{drop-append_seam, take-append_seam}
use Rattle.std.proofs.lemmas.Slice.Eq.{bytes_eq-Decides}
use Rattle.std.specs.Str.{bytes_eq}
use Rattle.hex.proofs.HexLemmas.{length-encode_with}
use Rattle.hex.specs.Hex.{encode_with, lower_digits}
use Rattle.std.specs.Int.{w32, to_be_bytes}
use Rattle.text_records.proofs.Common.{false≢true, eqb_tells, pieces_from, pieces_left, with_ends, has_no_lf, list_all, and_parts, list_all-append}
use Rattle.text_lines.specs.Lines.{IsCutInto, IsCutOnce, whole_lines, whole_lines_from, rest_of, rest_from}
use mathlib.Core.List.{IsPrefix}
use Rattle.text_records.specs.Seals.{crc32c, checksum_text, held_in, in_form, lines_in, opened_line, seal_of, sealed_line}
use Rattle.text_records.specs.declared.seals.LineForm.{LineForm}
use Rattle.text_records.specs.declared.seals.LineForm.TheVariants.{Sealed, Plain}

-- ---- lines and pieces

no_nil : (xs : List (List ℕ)) (x : List ℕ) → [] ≡ xs ++ x ∷ [] → ⊥
no_nil [] x e = cc e
no_nil (y ∷ xs) x e = cc e

unsnoc : (xs ys : List (List ℕ)) (x y : List ℕ) → xs ++ x ∷ [] ≡ ys ++ y ∷ [] → (xs ≡ ys) × (x ≡ y)
unsnoc [] [] x y e = (refl, cc e)
unsnoc [] (b ∷ ys) x y e = absurd (no_nil ys y (cc e))
unsnoc (a ∷ xs) [] x y e = absurd (no_nil xs x (cc e))
unsnoc (a ∷ xs) (b ∷ ys) x y e =
    let on = unsnoc xs ys x y (cc e) in
    let first : a ≡ b = cc e in
    (cc (first, on.0), on.1)

pieces_are : (p bytes : List ℕ) → pieces_from 10 p bytes ≡ whole_lines_from p bytes ++ rest_from p bytes ∷ []
pieces_are p [] = refl
pieces_are p (b ∷ bytes) = elim (eqb_tells b 10) [
  | inl e ↦ rw e.0 (ap (λ l. p ∷ l) (pieces_are [] bytes))
  | inr e ↦ rw e.0 (pieces_are (p ++ b ∷ []) bytes)
]

-- what is cut off first is a whole line, or all there is
pub line_first : (bytes line rest : List ℕ) → pieces_from 10 [] bytes ≡ line ∷ pieces_left 10 (Some rest) → (whole_lines bytes ≡ line ∷ whole_lines rest) × (rest_of bytes ≡ rest_of rest)
line_first bytes line rest e = unsnoc (whole_lines bytes) (line ∷ whole_lines rest) (rest_of bytes) (rest_of rest) (sym (pieces_are [] bytes) ∙ e ∙ ap (λ l. line ∷ l) (pieces_are [] rest))

pub line_last : (bytes line : List ℕ) → pieces_from 10 [] bytes ≡ line ∷ pieces_left 10 None → (whole_lines bytes ≡ []) × (rest_of bytes ≡ line)
line_last bytes line e = unsnoc (whole_lines bytes) [] (rest_of bytes) line (sym (pieces_are [] bytes) ∙ e)

-- ---- one sealed line

pub length_seal : (line : List ℕ) → length (seal_of line) ≡ 28
length_seal line = length-append (codes "{\"crc32c\":\"") (checksum_text line ++ codes "\",\"line\":")
    ∙ ap (λ (n : ℕ). 11 + n) (length-append (checksum_text line) (codes "\",\"line\":") ∙ ap (λ (n : ℕ). n + 9) (length-encode_with lower_digits (to_be_bytes w32 (crc32c line))))

sum_of : (n k : ℕ) → n ≡ k + 1 → 28 + n ≡ k + 29
sum_of n k e = omega (arith, e)

pub length_sealed : (line : List ℕ) → length (sealed_line line) ≡ length line + 29
length_sealed line =
    length-append (seal_of line) (line ++ codes "}") ∙ ap (λ (n : ℕ). n + length (line ++ codes "}")) (length_seal line)
    ∙ sum_of (length (line ++ codes "}")) (length line) (length-append line (codes "}"))

less : (n k : ℕ) → n ≡ k + 29 → n - 29 ≡ k
less n k e = omega (arith, e)

behind_seal : (line : List ℕ) → drop 28 (sealed_line line) ≡ line ++ codes "}"
behind_seal line =
    let at : drop (length (seal_of line)) (seal_of line ++ (line ++ codes "}")) ≡ line ++ codes "}" = drop-append_seam (seal_of line) (line ++ codes "}") in
    subst (λ (n : ℕ). drop n (seal_of line ++ (line ++ codes "}")) ≡ line ++ codes "}") (length_seal line) at

pub held_is : (line : List ℕ) → held_in (sealed_line line) ≡ line
held_is line =
    ap (λ (n : ℕ). take n (drop 28 (sealed_line line))) (less (length (sealed_line line)) (length line) (length_sealed line))
    ∙ ap (take (length line)) (behind_seal line)
    ∙ take-append_seam line (codes "}")

chosen : (same : Bool) (line held : List ℕ) → same ≡ true → (if same then held else line) ≡ held
chosen same line held is = rw is refl

pub opened_if : (line : List ℕ) → line ≡ sealed_line (held_in line) → opened_line line ≡ held_in line
opened_if line is = chosen (bytes_eq line (sealed_line (held_in line))) line (held_in line) ((bytes_eq-Decides line (sealed_line (held_in line))).1 is)

-- a sealed line is opened
pub opened_sealed : (line : List ℕ) → opened_line (sealed_line line) ≡ line
opened_sealed line = opened_if (sealed_line line) (ap sealed_line (sym (held_is line))) ∙ held_is line

-- another is left
pub left_if : (line : List ℕ) → (line ≡ sealed_line (held_in line) → ⊥) → line ≡ opened_line line
left_if line other = by (bytes_eq line (sealed_line (held_in line))) refl
  where
    by : (yes : Bool) → bytes_eq line (sealed_line (held_in line)) ≡ yes → line ≡ opened_line line
    by true e = absurd (other ((bytes_eq-Decides line (sealed_line (held_in line))).0 e))
    by false e = sym (rw e refl)

-- a line that begins otherwise is no sealed one: its fourth byte is no r
pub left_other : (line : List ℕ) → (get_or line 3 0 == 114) ≡ false → opened_line line ≡ line
left_other line h = sym (left_if line (λ is. false≢true (sym h ∙ ap (λ (l : List ℕ). get_or l 3 0 == 114) is)))

-- ---- no LF in a sealed line

abbrev is_other : ℕ → Bool
is_other b = not (b == 10)

other_at : (t : List ℕ) (k : ℕ) → list_all is_other t ≡ true → is_other (slice_index t k) ≡ true
other_at [] k h = refl
other_at (x ∷ t) zero h = (and_parts (is_other x) (list_all is_other t) h).0
other_at (x ∷ t) (suc k) h = other_at t k (and_parts (is_other x) (list_all is_other t) h).1

others : (xs : List ℕ) → has_no_lf (encode_with lower_digits xs) ≡ true
unfolding encode_with
others [] = refl
others (x ∷ xs) = rw (other_at lower_digits (x / 16) refl, other_at lower_digits (x % 16) refl) (others xs)

pub sealed_no_lf : (line : List ℕ) → has_no_lf line ≡ true → has_no_lf (sealed_line line) ≡ true
sealed_no_lf line h =
    let text = checksum_text line in
    let marked : has_no_lf (text ++ codes "\",\"line\":") ≡ true = list_all-append is_other text (codes "\",\"line\":") ∙ rw (others (to_be_bytes w32 (crc32c line))) refl in
    let front : has_no_lf (seal_of line) ≡ true = list_all-append is_other (codes "{\"crc32c\":\"") (text ++ codes "\",\"line\":") ∙ marked in
    let back : has_no_lf (line ++ codes "}") ≡ true = list_all-append is_other line (codes "}") ∙ rw h refl in
    list_all-append is_other (seal_of line) (line ++ codes "}") ∙ rw (front, back) refl

all_no_lf : (ls : List (List ℕ)) → list_all has_no_lf ls ≡ true → list_all has_no_lf (map sealed_line ls) ≡ true
all_no_lf [] h = refl
all_no_lf (l ∷ ls) h =
    let parts = and_parts (has_no_lf l) (list_all has_no_lf ls) h in
    rw (sealed_no_lf l parts.0) (all_no_lf ls parts.1)

-- ---- lines of texts

whole_append : (l xs ys : List ℕ) → whole_lines_from l (xs ++ ys) ≡ whole_lines_from l xs ++ whole_lines_from (rest_from l xs) ys
whole_append l [] ys = refl
whole_append l (x ∷ xs) ys = elim (eqb_tells x 10) [
  | inl e ↦ rw e.0 (ap (λ k. l ∷ k) (whole_append [] xs ys))
  | inr e ↦ rw e.0 (whole_append (l ++ x ∷ []) xs ys)
]

rest_append : (l xs ys : List ℕ) → rest_from l (xs ++ ys) ≡ rest_from (rest_from l xs) ys
rest_append l [] ys = refl
rest_append l (x ∷ xs) ys = elim (eqb_tells x 10) [
  | inl e ↦ rw e.0 (rest_append [] xs ys)
  | inr e ↦ rw e.0 (rest_append (l ++ x ∷ []) xs ys)
]

pub rest_behind : (a d : List ℕ) → rest_of a ≡ [] → rest_of (a ++ d) ≡ rest_of d
rest_behind a d none = rest_append [] a d ∙ ap (λ l. rest_from l d) none

ends_append : (ls ks : List (List ℕ)) → with_ends (ls ++ ks) ≡ with_ends ls ++ with_ends ks
ends_append [] ks = refl
ends_append (l ∷ ls) ks = ap (λ k. l ++ 10 ∷ k) (ends_append ls ks) ∙ sym (append_assoc l (10 ∷ with_ends ls) (with_ends ks))

-- the lines of a text that goes on
lines_on : (form : LineForm) (a d : List ℕ) → lines_in form (a ++ d) ≡ lines_in form a ++ with_ends (map (in_form form) (whole_lines_from (rest_of a) d))
lines_on form a d =
    ap (λ ls. with_ends (map (in_form form) ls)) (whole_append [] a d)
    ∙ ap with_ends (map-append (in_form form) (whole_lines a) (whole_lines_from (rest_of a) d))
    ∙ ends_append (map (in_form form) (whole_lines a)) (map (in_form form) (whole_lines_from (rest_of a) d))

pub lines_part : (form : LineForm) (a b : List ℕ) → IsPrefix a b → IsPrefix (lines_in form a) (lines_in form b)
lines_part form a b p = (with_ends (map (in_form form) (whole_lines_from (rest_of a) p.0)), sym (lines_on form a p.0) ∙ ap (lines_in form) p.1)

pub lines_behind : (form : LineForm) (a d : List ℕ) → rest_of a ≡ [] → lines_in form (a ++ d) ≡ lines_in form a ++ lines_in form d
lines_behind form a d none = lines_on form a d ∙ ap (λ l. lines_in form a ++ with_ends (map (in_form form) (whole_lines_from l d))) none

opened_all : (ls : List (List ℕ)) → map opened_line (map sealed_line ls) ≡ ls
opened_all [] = refl
opened_all (l ∷ ls) = cc (opened_sealed l, opened_all ls)

module _ (cut : (bytes : List ℕ) → IsCutInto bytes (whole_lines bytes) (rest_of bytes)) (once : (bytes : List ℕ) → IsCutOnce bytes) where
  -- lines with their LFs are cut into themselves
  cut_lines : (ls : List (List ℕ)) → list_all has_no_lf ls ≡ true → (whole_lines (with_ends ls) ≡ ls) × (rest_of (with_ends ls) ≡ [])
  cut_lines ls h =
      let both = once (with_ends ls) ls [] (record { joined = append-nil (with_ends ls); lines_are = h; rest_is = refl }) in
      (sym both.0, sym both.1)

  sealed_lines : (bytes : List ℕ) → (whole_lines (lines_in Sealed bytes) ≡ map sealed_line (whole_lines bytes)) × (rest_of (lines_in Sealed bytes) ≡ [])
  sealed_lines bytes = cut_lines (map sealed_line (whole_lines bytes)) (all_no_lf (whole_lines bytes) (cut bytes).lines_are)

  pub sealed_whole : (bytes : List ℕ) → rest_of (lines_in Sealed bytes) ≡ []
  sealed_whole bytes = (sealed_lines bytes).1

  pub held_lines : (bytes : List ℕ) → rest_of bytes ≡ [] → lines_in Plain (lines_in Sealed bytes) ≡ bytes
  held_lines bytes none =
      ap (λ ls. with_ends (map opened_line ls)) (sealed_lines bytes).0
      ∙ ap with_ends (opened_all (whole_lines bytes))
      ∙ sym (append-nil (with_ends (whole_lines bytes))) ∙ ap (λ l. with_ends (whole_lines bytes) ++ l) (sym none) ∙ (cut bytes).joined

-- ---- a line of three parts

below_seal : (n k : ℕ) → n ≡ k + 29 → n < 29 → ⊥
below_seal n k e h = omega (arith, e, h)

pub short_left : (line : List ℕ) → length line < 29 → line ≡ opened_line line
short_left line h = left_if line (λ is. below_seal (length line) (length (held_in line)) (ap length is ∙ length_sealed (held_in line)) h)

module _ (line front held : List ℕ) (last : ℕ) (is : line ≡ front ++ (held ++ last ∷ [])) (long : length front ≡ 28) where
  behind_front : drop 28 line ≡ held ++ last ∷ []
  behind_front =
      let at : drop (length front) (front ++ (held ++ last ∷ [])) ≡ held ++ last ∷ [] = drop-append_seam front (held ++ last ∷ []) in
      ap (drop 28) is ∙ subst (λ (n : ℕ). drop n (front ++ (held ++ last ∷ [])) ≡ held ++ last ∷ []) long at

  before_rest : take 28 line ≡ front
  before_rest =
      let at : take (length front) (front ++ (held ++ last ∷ [])) ≡ front = take-append_seam front (held ++ last ∷ []) in
      ap (take 28) is ∙ subst (λ (n : ℕ). take n (front ++ (held ++ last ∷ [])) ≡ front) long at

  length_line : length line - 29 ≡ length held
  length_line =
      less (length line) (length held) (ap length is ∙ length-append front (held ++ last ∷ []) ∙ ap (λ (n : ℕ). n + length (held ++ last ∷ [])) long
      ∙ sum_of (length (held ++ last ∷ [])) (length held) (length-append held (last ∷ [])))

  held_here : held_in line ≡ held
  held_here = ap (λ (n : ℕ). take n (drop 28 line)) length_line ∙ ap (take (length held)) behind_front ∙ take-append_seam held (last ∷ [])

  pub seal_right : last ≡ 125 → front ≡ seal_of held → held ≡ opened_line line
  seal_right end seal =
      let whole : line ≡ sealed_line held = is ∙ ap (λ (f : List ℕ). f ++ (held ++ last ∷ [])) seal ∙ ap (λ (b : ℕ). seal_of held ++ (held ++ b ∷ [])) end in
      sym (opened_if line (whole ∙ ap sealed_line (sym held_here)) ∙ held_here)

  pub seal_wrong : ((front ≡ seal_of held) × (last ≡ 125) → ⊥) → line ≡ opened_line line
  seal_wrong other = left_if line (λ same.
      let sealed : line ≡ sealed_line held = same ∙ ap sealed_line held_here in
      let seal : front ≡ seal_of held = sym before_rest ∙ ap (take 28) sealed ∙ front_of_sealed held in
      let rest : held ++ last ∷ [] ≡ held ++ 125 ∷ [] = sym behind_front ∙ ap (drop 28) sealed ∙ behind_seal held in
      let end : last ≡ 125 = cc (append_cancel_left held (last ∷ []) (125 ∷ []) rest) in
      other (seal, end))
    where
      front_of_sealed : (l : List ℕ) → take 28 (sealed_line l) ≡ seal_of l
      front_of_sealed l =
          let at : take (length (seal_of l)) (seal_of l ++ (l ++ codes "}")) ≡ seal_of l = take-append_seam (seal_of l) (l ++ codes "}") in
          subst (λ (n : ℕ). take n (seal_of l ++ (l ++ codes "}")) ≡ seal_of l) (length_seal l) at
