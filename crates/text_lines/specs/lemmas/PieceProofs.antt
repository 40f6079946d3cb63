-- bytes that are cut at a separator, and what a search for it passes over
use Rattle.std.proofs.Common.{◌≡◌, ◌==◌, ℕ, zero, suc, ◌+◌, ◌<◌, Bool, true, not, List, [], ◌∷◌, ◌++◌, length, take, drop, get_or, refl, sym, ap, ◌∙◌, append_assoc, eq-eqb, arith}
use Rattle.std.specs.List.{list_all}
use Rattle.std.proofs.lemmas.List.{append-nil, drop_more, take-append-drop}
use Rattle.std.proofs.lemmas.Bool.{and_parts, and_from, not-true, not_from_false, false_from_ne_true}
use Rattle.std.proofs.lemmas.List.Sums.{AllPass-from_list_all, list_all-from_AllPass}
use Rattle.memchr.specs.Find.{Nowhere, Passes, is_byte}
use Rattle.text_lines.specs.Lines.{pieces_from}

-- what passes one test passes a weaker one
pub passes_too : (p q : ℕ → Bool) → ((b : ℕ) → p b ≡ true → q b ≡ true) → (bytes : List ℕ) → list_all p bytes ≡ true → list_all q bytes ≡ true
passes_too p q weaker bytes all = list_all-from_AllPass q bytes (λ k d lt. weaker _ (AllPass-from_list_all p bytes all k d lt))

-- whether none of these is the separator
abbrev pub lacks : ℕ → List ℕ → Bool
lacks separator bytes = list_all (λ b. not (b == separator)) bytes

module _ (separator : ℕ) where
  -- bytes with none are of one piece, which the first separator ends
  pub pieces-pass : (piece xs ys : List ℕ) → lacks separator xs ≡ true → pieces_from separator piece (xs ++ ys) ≡ pieces_from separator (piece ++ xs) ys
  pieces-pass piece [] ys h = ap (λ p. pieces_from separator p ys) (sym (append-nil piece))
  pieces-pass piece (x ∷ xs) ys h =
      let parts = and_parts (not (x == separator)) (lacks separator xs) h in
      rw (not-true (x == separator) parts.0) (pieces-pass (piece ++ x ∷ []) xs ys parts.1 ∙ simp append_assoc)

  pub pieces-last : (piece xs : List ℕ) → lacks separator xs ≡ true → pieces_from separator piece xs ≡ (piece ++ xs) ∷ []
  pieces-last piece xs h = ap (pieces_from separator piece) (sym (append-nil xs)) ∙ pieces-pass piece xs [] h

  pub pieces-cut : (piece xs ys : List ℕ) → lacks separator xs ≡ true → pieces_from separator piece (xs ++ separator ∷ ys) ≡ (piece ++ xs) ∷ pieces_from separator [] ys
  pieces-cut piece xs ys h = pieces-pass piece xs (separator ∷ ys) h ∙ rw (eq-eqb separator separator refl) refl

  pub nowhere-lacks : (bytes : List ℕ) (n : ℕ) → Nowhere (Passes (is_byte separator) bytes) 0 n → lacks separator (take n bytes) ≡ true
  nowhere-lacks bytes zero h = refl
  nowhere-lacks [] (suc n) h = refl
  nowhere-lacks (b ∷ bs) (suc n) h =
      and_from (not (b == separator)) (lacks separator (take n bs)) (not_from_false (b == separator) (false_from_ne_true (b == separator) (h 0 (omega arith) (omega arith))))
      (nowhere-lacks bs n (λ k low high. h (suc k) (omega arith) (omega arith)))

-- bytes are those before a place, that at it and the others
pub parted_at : (bytes : List ℕ) (i x : ℕ) → i < length bytes → get_or bytes i 0 ≡ x → take i bytes ++ x ∷ drop (i + 1) bytes ≡ bytes
parted_at bytes i x lt is = ap (λ y. take i bytes ++ y ∷ drop (i + 1) bytes) (sym is) ∙ ap (λ l. take i bytes ++ l) (sym (drop_more bytes i 0 lt)) ∙ take-append-drop i bytes
