-- bytes are cut into their lines
use Rattle.std.proofs.Common.{◌≡◌, ℕ, ◌==◌, true, false, not, List, [], ◌∷◌, ◌++◌, inl, inr, refl, sym, ap, subst, ◌∙◌, append_assoc}
use Rattle.text_lines.proofs.Common.{list_all, append-nil, eqb_tells, and_parts, not-true}
use Rattle.std.proofs.lemmas.List.Folds.{list_all-append}
use Rattle.text_lines.specs.Lines.{whole_lines, whole_lines_from, rest_from, rest_of, has_no_lf, with_ends, IsCutInto}

no_lf-push : (line : List ℕ) (b : ℕ) → has_no_lf line ≡ true → (b == 10) ≡ false → has_no_lf (line ++ b ∷ []) ≡ true
no_lf-push line b h other = list_all-append (λ c. not (c == 10)) line (b ∷ []) ∙ rw (h, other) refl

cut_from : (line bs : List ℕ) → has_no_lf line ≡ true → IsCutInto (line ++ bs) (whole_lines_from line bs) (rest_from line bs)
cut_from line [] h = record { joined = sym (append-nil line); lines_are = refl; rest_is = h }
cut_from line (b ∷ bs) h =
    elim (eqb_tells b 10) [
      | inl e ↦ rw e.0 (
          let c = cut_from [] bs refl in
          record {
            joined = append_assoc line (10 ∷ with_ends (whole_lines_from [] bs)) (rest_from [] bs) ∙ ap (λ t. line ++ 10 ∷ t) c.joined ∙ ap (λ x. line ++ x ∷ bs) (sym e.1);
            lines_are = rw h c.lines_are;
            rest_is = c.rest_is;
          })
      | inr e ↦ rw e.0 (subst (λ l. IsCutInto l (whole_lines_from (line ++ b ∷ []) bs) (rest_from (line ++ b ∷ []) bs)) (append_assoc line (b ∷ []) bs) (cut_from (line ++ b ∷ []) bs (no_lf-push line b h e.0)))
    ]

pub cut_right : (bytes : List ℕ) → IsCutInto bytes (whole_lines bytes) (rest_of bytes)
cut_right bytes = cut_from [] bytes refl

-- bytes with no LF go on the line
passed : (line xs ys : List ℕ) → has_no_lf xs ≡ true → (whole_lines_from line (xs ++ ys) ≡ whole_lines_from (line ++ xs) ys) × (rest_from line (xs ++ ys) ≡ rest_from (line ++ xs) ys)
passed line [] ys h = (ap (λ l. whole_lines_from l ys) (sym (append-nil line)), ap (λ l. rest_from l ys) (sym (append-nil line)))
passed line (x ∷ xs) ys h =
    let parts = and_parts (not (x == 10)) (has_no_lf xs) h in
    let on = passed (line ++ x ∷ []) xs ys parts.1 in
    rw (not-true (x == 10) parts.0) (on.0 ∙ ap (λ l. whole_lines_from l ys) (append_assoc line (x ∷ []) xs), on.1 ∙ ap (λ l. rest_from l ys) (append_assoc line (x ∷ []) xs))

cut_again : (ls : List (List ℕ)) (rest : List ℕ) → list_all has_no_lf ls ≡ true → has_no_lf rest ≡ true → (ls ≡ whole_lines (with_ends ls ++ rest)) × (rest ≡ rest_of (with_ends ls ++ rest))
cut_again [] rest h r =
    let on = passed [] rest [] r in
    (sym (ap whole_lines (sym (append-nil rest)) ∙ on.0), sym (ap rest_of (sym (append-nil rest)) ∙ on.1))
cut_again (line ∷ ls) rest h r =
    let parts = and_parts (has_no_lf line) (list_all has_no_lf ls) h in
    let later = cut_again ls rest parts.1 r in
    let on = passed [] line (10 ∷ with_ends ls ++ rest) parts.0 in
    let same = append_assoc line (10 ∷ with_ends ls) rest in
    (ap (λ l. line ∷ l) later.0 ∙ sym (ap whole_lines same ∙ on.0), later.1 ∙ sym (ap rest_of same ∙ on.1))

-- and no otherwise
pub cut_once : (bytes : List ℕ) (ls : List (List ℕ)) (rest : List ℕ) → IsCutInto bytes ls rest → (ls ≡ whole_lines bytes) × (rest ≡ rest_of bytes)
cut_once bytes ls rest c = subst (λ l. (ls ≡ whole_lines l) × (rest ≡ rest_of l)) c.joined (cut_again ls rest c.lines_are c.rest_is)
