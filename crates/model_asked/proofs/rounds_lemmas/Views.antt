-- what is read off a view: who proposes a number, and ranks
use Rattle.std.proofs.Common.{◌≡◌, ℕ, zero, suc, ◌+◌, ◌<◌, ◌==◌, ◌&&◌, nat_le, Bool, true, false, cond, List, [], ◌∷◌, Some, None, is_some, inl, inr, refl, sym, ap, ◌∙◌, arith}
use Rattle.std.specs.List.{list_any}
use Rattle.std.proofs.lemmas.Bool.{cases_Bool}
use Rattle.std.proofs.lemmas.List.Sums.{sum_by-cons}
use Rattle.model_steps.proofs.cited.CountLemmas.{count_none, count_more, count_below, count_to-mono, count_to-longer}
use Rattle.model_asked.proofs.rounds_lemmas.Common.{eqb_tells, leb_tells, IsRising, value_of, count_to, set_at}
use Rattle.model_asked.specs.rounds.Proposals.{rank}

-- one of those that pass the test proposes n
abbrev pub proposed_by : (ℕ → Bool) → List (ℕ × ℕ) → ℕ → Bool
proposed_by test view n = list_any (λ pair. test pair.0 && (pair.1 == n)) view

-- who is found behind a pair is above it
pub above : (x : ℕ × ℕ) (xs : List (ℕ × ℕ)) (q n : ℕ) → IsRising (x ∷ xs) → value_of q xs ≡ Some n → x.0 < q
above x [] q n h e = absurd (cc)
above x (y ∷ ys) q n h e = elim (eqb_tells y.0 q) [
  | inl w ↦ let a = h.0 in let b = w.1 in omega arith
  | inr w ↦ let a = h.0 in let i = above y ys q n h.1 (rw w.0 at e) in omega arith
]

same_as : (n : ℕ) → (n == n) ≡ true
same_as n = elim (eqb_tells n n) [ inl u ↦ u.0 | inr u ↦ absurd (u.1 refl) ]

module _ (test : ℕ → Bool) where
  behind : (x : ℕ × ℕ) (xs : List (ℕ × ℕ)) (n : ℕ) → IsRising (x ∷ xs) → (q : ℕ) × (test q ≡ true) × (value_of q xs ≡ Some n) → (q : ℕ) × (test q ≡ true) × (value_of q (x ∷ xs) ≡ Some n)
  behind x xs n h k =
      let up = above x xs k.0 n h k.2 in
      let no : (x.0 == k.0) ≡ false = (elim (eqb_tells x.0 k.0) [ inl u ↦ absurd (let e = u.1 in omega arith) | inr u ↦ u.0 ]) in
      (k.0, k.1, rw no k.2)

  -- one of them proposes n: it is found in the view
  pub found : (view : List (ℕ × ℕ)) (n : ℕ) → IsRising view → proposed_by test view n ≡ true → (q : ℕ) × (test q ≡ true) × (value_of q view ≡ Some n)
  found [] n h e = absurd (cc)
  found (x ∷ xs) n h e = elim (cases_Bool (test x.0)) [
    | inr w ↦ behind x xs n h (found xs n h.1 (rw w at e))
    | inl w ↦ elim (eqb_tells x.1 n) [
      | inl v ↦ (x.0, w, rw (same_as x.0, v.1) refl)
      | inr v ↦ behind x xs n h (found xs n h.1 (rw (w, v.0) at e))
    ]
  ]

  -- who is found with n, and is one of them, proposes it
  pub finds : (view : List (ℕ × ℕ)) (q n : ℕ) → value_of q view ≡ Some n → test q ≡ true → proposed_by test view n ≡ true
  finds [] q n e t = absurd (cc)
  finds (x ∷ xs) q n e t = elim (eqb_tells x.0 q) [
    | inl w ↦
        let is : Some x.1 ≡ Some n = rw w.0 at e in
        let same : x.1 ≡ n = cc in
        let mine : test x.0 ≡ true = ap test w.1 ∙ t in
        let equal : (x.1 == n) ≡ true = (elim (eqb_tells x.1 n) [ inl u ↦ u.0 | inr u ↦ absurd (u.1 same) ]) in
        rw (mine, equal) refl
    | inr w ↦
        let rest : proposed_by test xs n ≡ true = finds xs q n (rw w.0 at e) t in
        elim (cases_Bool (test x.0)) [
          | inr v ↦ rw v rest
          | inl v ↦ elim (eqb_tells x.1 n) [
            | inl u ↦ rw (v, u.0) refl
            | inr u ↦ rw (v, u.0) rest
          ]
        ]
  ]

-- whether an identity is in the view
abbrev pub stands_in : List (ℕ × ℕ) → ℕ → Bool
stands_in view u = is_some (value_of u view)

count_same : (f g : ℕ → Bool) (n : ℕ) → ((k : ℕ) → f k ≡ g k) → count_to f n ≡ count_to g n
count_same f g zero h = refl
count_same f g (suc n) h = let i = count_same f g n h in let e = h n in rw e (ap (λ x. x + cond (g n) 1 0) i)

-- the rank of an identity is the number of those of the view that are not above it
pub rank_is : (id : ℕ) (view : List (ℕ × ℕ)) → IsRising view → rank id view ≡ count_to (stands_in view) (suc id)
rank_is id [] h = sym (count_none (suc id))
rank_is id (x ∷ xs) h =
    let r : rank id (x ∷ xs) ≡ cond (nat_le x.0 id) 1 0 + rank id xs = sum_by-cons (λ pair. cond (nat_le pair.0 id) 1 0) x xs in
    let i : rank id xs ≡ count_to (stands_in xs) (suc id) = rank_is id xs h.1 in
    let absent : stands_in xs x.0 ≡ false = (elim (value_of x.0 xs) as (λ o. value_of x.0 xs ≡ o → is_some o ≡ false) [
      | None ↦ λ e. refl
      | Some n ↦ λ e. absurd (let up = above x xs x.0 n h e in omega arith)
    ] refl) in
    let same : count_to (stands_in (x ∷ xs)) (suc id) ≡ count_to (set_at (stands_in xs) x.0 true) (suc id) = count_same (stands_in (x ∷ xs)) (set_at (stands_in xs) x.0 true) (suc id) (λ k. elim (eqb_tells k x.0) [
      | inl e ↦ let back : (x.0 == k) ≡ true = (elim (eqb_tells x.0 k) [ inl u ↦ u.0 | inr u ↦ absurd (u.1 (sym e.1)) ]) in rw (back, e.0) refl
      | inr e ↦ let back : (x.0 == k) ≡ false = (elim (eqb_tells x.0 k) [ inl u ↦ absurd (e.1 (sym u.1)) | inr u ↦ u.0 ]) in rw (back, e.0) refl
    ]) in
    elim (leb_tells x.0 id) [
      | inl e ↦ let low = e.1 in let more = count_more (stands_in xs) x.0 (suc id) absent (omega arith) in let one : rank id (x ∷ xs) ≡ 1 + rank id xs = r ∙ ap (λ (b : Bool). cond b 1 0 + rank id xs) e.0 in omega arith
      | inr e ↦ let high = e.1 in let none = count_below (stands_in xs) x.0 (suc id) (omega arith) in let zero_is : rank id (x ∷ xs) ≡ 0 + rank id xs = r ∙ ap (λ (b : Bool). cond b 1 0 + rank id xs) e.0 in omega arith
    ]

-- a higher identity has a higher rank, in any view with all of these
pub rank_higher : (p q : ℕ) (view other : List (ℕ × ℕ)) → IsRising view → IsRising other → ((u : ℕ) → stands_in view u ≡ true → stands_in other u ≡ true) → stands_in other q ≡ true → p < q → rank p view < rank q other
rank_higher p q view other h k all there l =
    let a = rank_is p view h in
    let b = rank_is q other k in
    let up = count_to-mono (stands_in view) (stands_in other) (suc p) (λ u m. all u) in
    let longer = count_to-longer (stands_in other) (suc p) q (omega arith) in
    let last : count_to (stands_in other) (suc q) ≡ count_to (stands_in other) q + 1 = rw there refl in
    omega arith
