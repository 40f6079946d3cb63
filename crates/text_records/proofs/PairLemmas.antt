-- a pair put in at its place
use Rattle.std.proofs.Common.{◌≡◌, ◌≢◌, ℕ, suc, ◌+◌, ◌≤◌, inl, inr, true, false, cond, List, [], ◌∷◌, length, set, Some, None, refl, sym, ap, ◌∙◌, subst, arith}
use Rattle.text_records.proofs.Common.{leb_tells, eqb_tells, inserted, HasAt}
use Rattle.std.specs.Prelude.{nat_le, nat_lt, not, unwrap_or, position}
use Rattle.std.specs.List.{position_or_len, insert}
use Rattle.std.proofs.lemmas.Bool.{cases_Bool, ne_eqb, eq-eqb, lt-ltb, le-ltb, ltb-false}

abbrev place : ℕ → List (ℕ × ℕ) → ℕ
place id xs = position_or_len (λ pair. nat_le id pair.0) xs

one_more : (n : ℕ) → 1 + n ≡ suc n
one_more n = omega arith

here : (id : ℕ) (x : ℕ × ℕ) (xs : List (ℕ × ℕ)) → nat_le id x.0 ≡ true → place id (x ∷ xs) ≡ 0
here id x xs e = ap (λ b. cond (not b) (1 + place id xs) 0) e

further : (id : ℕ) (x : ℕ × ℕ) (xs : List (ℕ × ℕ)) → nat_le id x.0 ≡ false → place id (x ∷ xs) ≡ suc (place id xs)
further id x xs e = ap (λ b. cond (not b) (1 + place id xs) 0) e ∙ one_more (place id xs)

replaced : (xs : List (ℕ × ℕ)) (new : ℕ × ℕ) → HasAt xs (place new.0 xs) new.0 → set xs (place new.0 xs) new ≡ inserted xs new
replaced [] new h = absurd (let l = h.inside in omega arith)
replaced (x ∷ xs) new h = elim (leb_tells new.0 x.0) [
  | inl y ↦
      let at = here new.0 x xs y.0 in
      let k : HasAt (x ∷ xs) 0 new.0 = subst (λ (j : ℕ). HasAt (x ∷ xs) j new.0) at h in
      let same : x.0 ≡ new.0 = k.own in
      ap (λ (j : ℕ). set (x ∷ xs) j new) at ∙ rw (le-ltb new.0 x.0 (omega arith), eq-eqb x.0 new.0 same) refl
  | inr y ↦
      let at = further new.0 x xs y.0 in
      let above = y.1 in
      let k : HasAt (x ∷ xs) (suc (place new.0 xs)) new.0 = subst (λ (j : ℕ). HasAt (x ∷ xs) j new.0) at h in
      let inside = k.inside in
      ap (λ (j : ℕ). set (x ∷ xs) j new) at ∙ rw (le-ltb new.0 x.0 (omega arith), ne_eqb x.0 new.0 (λ e. absurd (omega arith)))
      (ap (λ (l : List (ℕ × ℕ)). x ∷ l) (replaced xs new (record { inside = omega arith; own = k.own })))
]

put_before : (xs : List (ℕ × ℕ)) (new : ℕ × ℕ) → (HasAt xs (place new.0 xs) new.0 → ⊥) → insert xs (place new.0 xs) new ≡ inserted xs new
put_before [] new h = refl
put_before (x ∷ xs) new h = elim (leb_tells new.0 x.0) [
  | inl y ↦
      let at = here new.0 x xs y.0 in
      let other : x.0 ≢ new.0 = (λ same. h (subst (λ (j : ℕ). HasAt (x ∷ xs) j new.0) (sym at) (record { inside = omega arith; own = same }))) in
      let below = y.1 in
      ap (λ (j : ℕ). insert (x ∷ xs) j new) at ∙ rw (lt-ltb new.0 x.0 (elim (eqb_tells x.0 new.0) [ inl e ↦ absurd (other e.1) | inr e ↦ (let d = e.1 in omega arith) ])) refl
  | inr y ↦
      let at = further new.0 x xs y.0 in
      let above = y.1 in
      ap (λ (j : ℕ). insert (x ∷ xs) j new) at ∙ rw (le-ltb new.0 x.0 (omega arith), ne_eqb x.0 new.0 (λ e. absurd (omega arith)))
      (ap (λ (l : List (ℕ × ℕ)). x ∷ l) (put_before xs new (λ k. h (subst (λ (j : ℕ). HasAt (x ∷ xs) j new.0) (sym at) (record { inside = (let i = k.inside in omega arith); own = k.own })))))
]

-- a place is no further than the end
no_further : (id : ℕ) (xs : List (ℕ × ℕ)) → place id xs ≤ length xs
no_further id [] = omega arith
no_further id (x ∷ xs) = elim (leb_tells id x.0) [
  | inl y ↦ (let at = here id x xs y.0 in omega arith)
  | inr y ↦ (let at = further id x xs y.0 in let rest = no_further id xs in omega arith)
]

-- the first place at which the test passes, or the end
place_is : (id : ℕ) (xs : List (ℕ × ℕ)) → unwrap_or (position (λ pair. nat_le id pair.0) xs) (length xs) ≡ place id xs
place_is id xs =
    let end = no_further id xs in
    elim (cases_Bool (nat_lt (place id xs) (length xs))) [
      | inl y ↦ ap (λ b. unwrap_or (cond b (Some (place id xs)) None) (length xs)) y
      | inr y ↦ ap (λ b. unwrap_or (cond b (Some (place id xs)) None) (length xs)) y ∙ (let far = ltb-false _ _ y in omega arith)
    ]

module _ (xs : List (ℕ × ℕ)) (new : ℕ × ℕ) (at : ℕ) (is : at ≡ unwrap_or (position (λ pair. nat_le new.0 pair.0) xs) (length xs)) where
  at_place : at ≡ place new.0 xs
  at_place = is ∙ place_is new.0 xs

  pub put_over : HasAt xs at new.0 → set xs at new ≡ inserted xs new
  put_over h = ap (λ (j : ℕ). set xs j new) at_place ∙ replaced xs new (subst (λ (j : ℕ). HasAt xs j new.0) at_place h)

  pub put_between : (HasAt xs at new.0 → ⊥) → insert xs at new ≡ inserted xs new
  put_between h = ap (λ (j : ℕ). insert xs j new) at_place ∙ put_before xs new (λ k. h (subst (λ (j : ℕ). HasAt xs j new.0) (sym at_place) k))
