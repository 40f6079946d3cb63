-- what the index of an identity tells, and how entries are seen after one was added or replaced
use Rattle.std.proofs.Common.{◌≡◌, ℕ, suc, ◌+◌, ◌<◌, ◌==◌, true, false, cond, inl, inr, List, [], ◌∷◌, ◌++◌, Option, Some, None, length, get_or, refl, sym, ap, subst, ◌∙◌, arith, add-one, option_map, is_some}
use Rattle.model_steps.proofs.Common.{eqb_tells, Decides-eqb, set_at}
use Rattle.model_steps.specs.Roster.{index_by, seen_by, replaced_by, StandsAt}

pub eqb_flip : (a b : ℕ) → (a == b) ≡ (b == a)
eqb_flip a b = elim (eqb_tells a b) [ inl w ↦ w.0 ∙ sym ((Decides-eqb b a).1 (sym w.1)) | inr w ↦ elim (eqb_tells b a) [ inl v ↦ absurd (w.1 (sym v.1)) | inr v ↦ w.0 ∙ sym v.0 ] ]

module _ {X Y : Type 0} (identity : X → ℕ) (seen : X → Y) where
  stands_here : (id : ℕ) (x : X) (xs : List X) → (identity x == id) ≡ true → StandsAt identity seen id (x ∷ xs) 0 x
  stands_here id x xs e = record {
    inside = omega arith;
    is = rw e refl;
    identity = (Decides-eqb (identity x) id).0 e;
    put = λ new h. let same : (identity x == identity new) ≡ true = rw h e in rw same refl;
  }

  stands_there : (id : ℕ) (x : X) (xs : List X) (i : ℕ) (y : X) → (identity x == id) ≡ false → StandsAt identity seen id xs i y → StandsAt identity seen id (x ∷ xs) (suc i) y
  stands_there id x xs i y e f = record {
    inside = omega (arith, f.inside);
    is = rw e f.is;
    identity = f.identity;
    put = λ new h. let other : (identity x == identity new) ≡ false = rw h e in rw other (ap (λ ys. x ∷ ys) (f.put new h));
  }

  stands_next : (id : ℕ) (x : X) (xs : List X) (d : X) (at : Option ℕ) (i : ℕ) → (identity x == id) ≡ false →
      ((k : ℕ) → at ≡ Some k → StandsAt identity seen id xs k (get_or xs k d)) → option_map (λ k. k + 1) at ≡ Some i → StandsAt identity seen id (x ∷ xs) i (get_or (x ∷ xs) i d)
  stands_next id x xs d None i e f h = absurd (cc)
  stands_next id x xs d (Some k) i e f h =
      let next : suc k ≡ i = sym (add-one k) ∙ (let e : k + 1 ≡ i = cc in e) in
      subst (λ (n : ℕ). StandsAt identity seen id (x ∷ xs) n (get_or (x ∷ xs) n d)) next (stands_there id x xs k (get_or xs k d) e (f k refl))

  stands_at : (id : ℕ) (xs : List X) (i : ℕ) (d : X) → index_by identity id xs ≡ Some i → StandsAt identity seen id xs i (get_or xs i d)
  stands_at id [] i d h = absurd (cc)
  stands_at id (x ∷ xs) i d h =
      elim (identity x == id) as (λ b. (identity x == id) ≡ b → cond b (Some 0) (option_map (λ k. k + 1) (index_by identity id xs)) ≡ Some i → StandsAt identity seen id (x ∷ xs) i (get_or (x ∷ xs) i d)) [
        | true ↦ λ e h. let zero : 0 ≡ i = cc in subst (λ (n : ℕ). StandsAt identity seen id (x ∷ xs) n (get_or (x ∷ xs) n d)) zero (stands_here id x xs e)
        | false ↦ λ e h. stands_next id x xs d (index_by identity id xs) i e (λ k. stands_at id xs k d) h
      ]
      refl h

  -- the entry at the index that was found, of a list that is these entries
  pub found : (id : ℕ) {shown items : List X} (xs : List X) (i : ℕ) (x : X) → shown ≡ items → items ≡ xs → Some i ≡ index_by identity id shown → x ≡ get_or items i x →
      StandsAt identity seen id xs i x
  found id {shown} {items} xs i x a b h e =
      let at : index_by identity id items ≡ Some i = ap (index_by identity id) (sym a) ∙ sym h in
      subst (λ (ys : List X). StandsAt identity seen id ys i x) b (subst (λ (y : X). StandsAt identity seen id items i y) (sym e) (stands_at id items i x at))

  pub below : (id : ℕ) (xs : List X) (i : ℕ) → Some i ≡ index_by identity id xs → i < length xs
  below id [] i h = absurd (cc)
  below id (x ∷ xs) i h = (stands_at id (x ∷ xs) i x (sym h)).inside

  -- whether an index was found
  pub is_some-index : (id : ℕ) (xs : List X) → is_some (index_by identity id xs) ≡ is_some (seen_by identity seen id xs)
  is_some-index id [] = refl
  is_some-index id (x ∷ xs) =
      elim (identity x == id) as (λ b. is_some (cond b (Some 0) (option_map (λ k. k + 1) (index_by identity id xs))) ≡ is_some (cond b (Some (seen x)) (seen_by identity seen id xs)))
      [ true ↦ refl | false ↦ elim (index_by identity id xs) as (λ o. is_some o ≡ is_some (seen_by identity seen id xs) → is_some (option_map (λ k. k + 1) o) ≡ is_some (seen_by identity seen id xs)) [ None ↦ λ h. h | Some k ↦ λ h. h ] (is_some-index id xs) ]

  -- where none was found there is none
  pub absent : (id : ℕ) {shown items : List X} (xs : List X) → shown ≡ items → items ≡ xs → None ≡ index_by identity id shown → seen_by identity seen id xs ≡ None
  absent id {shown} xs a b h =
      elim (seen_by identity seen id xs) as (λ o. is_some (index_by identity id xs) ≡ is_some o → o ≡ None)
      [ None ↦ λ _. refl | Some y ↦ λ e. absurd (let never : false ≡ true = ap is_some h ∙ ap (λ ys. is_some (index_by identity id ys)) (a ∙ b) ∙ e in cc) ] (is_some-index id xs)

  -- one more at the end, whose identity was not there
  pub seen-push : (xs : List X) (new : X) → seen_by identity seen (identity new) xs ≡ None → (q : ℕ) →
      seen_by identity seen q (xs ++ new ∷ []) ≡ set_at (λ v. seen_by identity seen v xs) (identity new) (Some (seen new)) q
  seen-push [] new h q = rw (eqb_flip q (identity new)) refl
  seen-push (x ∷ xs) new h q =
      elim (eqb_tells (identity x) (identity new)) [
        | inl w ↦ absurd (let k : Some (seen x) ≡ None = rw w.0 at h in cc)
        | inr w ↦ elim (eqb_tells (identity x) q) [
          | inl v ↦ let other : (q == identity new) ≡ false = rw (← v.1) w.0 in rw (v.0, other) refl
          | inr v ↦ let i = seen-push xs new (rw w.0 at h) q in rw v.0 i
        ]
      ]

  -- one put in the place of the one of its identity
  pub seen-put : (xs : List X) (new : X) → is_some (seen_by identity seen (identity new) xs) ≡ true → (q : ℕ) →
      seen_by identity seen q (replaced_by identity new xs) ≡ set_at (λ v. seen_by identity seen v xs) (identity new) (Some (seen new)) q
  seen-put [] new h q = absurd (cc)
  seen-put (x ∷ xs) new h q =
      elim (eqb_tells (identity x) (identity new)) [
        | inl w ↦ elim (eqb_tells (identity new) q) [
          | inl v ↦ let own : (q == identity new) ≡ true = eqb_flip q (identity new) ∙ v.0 in rw (w.0, v.0, own) refl
          | inr v ↦ let other : (q == identity new) ≡ false = eqb_flip q (identity new) ∙ v.0 in let first : (identity x == q) ≡ false = rw w.1 v.0 in rw (w.0, v.0, other, first) refl
        ]
        | inr w ↦ elim (eqb_tells (identity x) q) [
          | inl v ↦ let other : (q == identity new) ≡ false = rw (← v.1) w.0 in rw (w.0, v.0, other) refl
          | inr v ↦ let i = seen-put xs new (rw w.0 at h) q in rw (w.0, v.0) i
        ]
      ]
