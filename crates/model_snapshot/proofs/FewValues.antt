-- a view has no more pairs than have begun
use Rattle.std.proofs.Common.{◌≡◌, ℕ, ◌<◌, ◌≤◌, ◌==◌, Bool, true, false, List, [], ◌∷◌, length, Option, Some, None, inl, inr, refl, arith, is_some, if◌then◌else◌}
use Rattle.model_snapshot.proofs.Common.{eqb_tells, IsRising, value_of, count_to}
use Rattle.model_steps.proofs.cited.CountLemmas.{count_to-le, count_to-gain}

-- who is found behind a pair is above it
above : (x : ℕ × ℕ) (xs : List (ℕ × ℕ)) (q n : ℕ) → IsRising (x ∷ xs) → value_of q xs ≡ Some n → x.0 < q
above x [] q n h e = absurd (cc)
above x (y ∷ ys) q n h e = elim (eqb_tells y.0 q) [
  | inl w ↦ let a = h.0 in let b = w.1 in omega arith
  | inr w ↦ let a = h.0 in let i = above y ys q n h.1 (rw w.0 at e) in omega arith
]

found_too : (b : Bool) (here : ℕ) (o : Option ℕ) → is_some o ≡ true → is_some (if b then Some here else o) ≡ true
found_too true here o h = refl
found_too false here o h = h

module _ (who : ℕ → ℕ) (b : ℕ) where
  found_in : (view : List (ℕ × ℕ)) → IsRising view → ((q n : ℕ) → value_of q view ≡ Some n → (i : ℕ) × (i < b) × (who i ≡ q)) → length view ≤ count_to (λ i. is_some (value_of (who i) view)) b
  found_in [] h there = omega arith
  found_in (x ∷ xs) h there =
      let own : (x.0 == x.0) ≡ true = (elim (eqb_tells x.0 x.0) [ inl u ↦ u.0 | inr u ↦ absurd (u.1 refl) ]) in
      let it = there x.0 x.1 (rw own refl) in
      let same = it.2 in
      let before = found_in xs h.1 (λ q n e.
      let up = above x xs q n h e in
      let no : (x.0 == q) ≡ false = (elim (eqb_tells x.0 q) [ inl u ↦ absurd (let k = u.1 in omega arith) | inr u ↦ u.0 ]) in
      there q n (rw no e)) in
      let absent : is_some (value_of (who it.0) xs) ≡ false = (elim (value_of (who it.0) xs) as (λ o. value_of (who it.0) xs ≡ o → is_some o ≡ false) [
        | None ↦ λ _. refl
        | Some n ↦ λ e. absurd (let up = above x xs (who it.0) n h e in omega arith)
      ] refl) in
      let here : is_some (value_of (who it.0) (x ∷ xs)) ≡ true = rw (it.2, own) refl in
      let gain = count_to-gain (λ i. is_some (value_of (who i) xs)) (λ i. is_some (value_of (who i) (x ∷ xs))) b it.0 it.1 absent here (λ i l k. found_too (x.0 == who i) x.1 (value_of (who i) xs) k) in
      omega arith

  -- where each identity of a view is one of the first b
  pub few_values : (view : List (ℕ × ℕ)) → IsRising view → ((q n : ℕ) → value_of q view ≡ Some n → (i : ℕ) × (i < b) × (who i ≡ q)) → length view ≤ b
  few_values view h there = let found = found_in view h there in let all = count_to-le (λ i. is_some (value_of (who i) view)) b in omega arith
