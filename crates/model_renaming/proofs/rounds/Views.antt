-- what is read off a view
use Rattle.std.proofs.Common.{◌≡◌, ◌≢◌, ℕ, ◌<◌, ◌==◌, true, false, List, [], ◌∷◌, Some, inl, inr, refl, sym, ◌∙◌, arith}
use Rattle.model_renaming.proofs.Common.{eqb_tells, IsRising, value_of, is_taken}

-- who is found behind a pair is above it
pub above : (x : ℕ × ℕ) (xs : List (ℕ × ℕ)) (q n : ℕ) → IsRising (x ∷ xs) → value_of q xs ≡ Some n → x.0 < q
above x [] q n h e = absurd (cc)
above x (y ∷ ys) q n h e = elim (eqb_tells y.0 q) [
  | inl w ↦ let a = h.0 in let b = w.1 in omega arith
  | inr w ↦ let a = h.0 in let i = above y ys q n h.1 (rw w.0 at e) in omega arith
]

later : (id : ℕ) (x : ℕ × ℕ) (xs : List (ℕ × ℕ)) (n : ℕ) → IsRising (x ∷ xs) → (q : ℕ) × (q ≢ id) × (value_of q xs ≡ Some n) → (q : ℕ) × (q ≢ id) × (value_of q (x ∷ xs) ≡ Some n)
later id x xs n h k =
    let up = above x xs k.0 n h k.2 in
    let no : (x.0 == k.0) ≡ false = (elim (eqb_tells x.0 k.0) [ inl u ↦ absurd (let e = u.1 in omega arith) | inr u ↦ u.0 ]) in
    (k.0, k.1, rw no k.2)

-- another proposes n: it is found in the view
pub taken_by : (id : ℕ) (view : List (ℕ × ℕ)) (n : ℕ) → IsRising view → is_taken id view n ≡ true → (q : ℕ) × (q ≢ id) × (value_of q view ≡ Some n)
taken_by id [] n h e = absurd (cc)
taken_by id (x ∷ xs) n h e = elim (eqb_tells x.0 id) [
  | inl w ↦ later id x xs n h (taken_by id xs n h.1 (rw w.0 at e))
  | inr w ↦ elim (eqb_tells x.1 n) [
    | inl v ↦ (x.0, w.1, let same : (x.0 == x.0) ≡ true = (elim (eqb_tells x.0 x.0) [ inl u ↦ u.0 | inr u ↦ absurd (u.1 refl) ]) in rw (same, v.1) refl)
    | inr v ↦ later id x xs n h (taken_by id xs n h.1 (rw (w.0, v.0) at e))
  ]
]

-- no other proposes n: who is found with n is oneself
pub taken_not : (id : ℕ) (view : List (ℕ × ℕ)) (n : ℕ) → is_taken id view n ≡ false → (q : ℕ) → q ≢ id → value_of q view ≢ Some n
taken_not id [] n h q other e = absurd (cc)
taken_not id (x ∷ xs) n h q other e = elim (eqb_tells x.0 id) [
  | inl w ↦ elim (eqb_tells x.0 q) [
    | inl u ↦ other (sym u.1 ∙ w.1)
    | inr u ↦ taken_not id xs n (rw w.0 at h) q other (rw u.0 at e)
  ]
  | inr w ↦ elim (eqb_tells x.1 n) [
    | inl v ↦ absurd (let k : true ≡ false = rw (w.0, v.0) at h in cc)
    | inr v ↦ elim (eqb_tells x.0 q) [
      | inl u ↦ absurd (let k : Some x.1 ≡ Some n = rw u.0 at e in let same : x.1 ≡ n = cc in v.1 same)
      | inr u ↦ taken_not id xs n (rw (w.0, v.0) at h) q other (rw u.0 at e)
    ]
  ]
]
