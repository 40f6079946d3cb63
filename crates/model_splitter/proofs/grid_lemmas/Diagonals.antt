-- how deep a grid of doors can be entered
use Rattle.std.proofs.Common.{◌≡◌, ◌≢◌, ℕ, zero, suc, ◌+◌, ◌<◌, ◌≤◌, Bool, true, false, not, ◌&&◌, ◌||◌, ◌==◌, ◌⊎◌, inl, inr, List, [], ◌∷◌, length, refl, sym, subst, arith}
use Rattle.model_splitter.proofs.grid_lemmas.Common.{cases_Bool, eqb_tells, Decides-eqb, count_to}

-- how many doors of the first n diagonals pass a test of depth and column
abbrev pub doors_to : (ℕ → ℕ → Bool) → ℕ → ℕ
doors_to f zero = 0
doors_to f (suc n) = doors_to f n + count_to (f n) (suc n)

-- doors of which each leads to two neighbours of the next diagonal lead to one more than they are
module _ (f g : ℕ → Bool) where
  spread : (n : ℕ) → ((c : ℕ) → c < n → f c ≡ true → (g c ≡ true) × (g (suc c) ≡ true)) → (count_to f n ≡ 0) ⊎ (count_to f n + 1 ≤ count_to g (suc n))
  spread zero h = inl refl
  spread (suc n) h =
      let before : (count_to f n ≡ 0) ⊎ (count_to f n + 1 ≤ count_to g (suc n)) = spread n (λ c l. h c (omega arith)) in
      elim (cases_Bool (f n)) [
        | inr no_door ↦ elim before [ inl z ↦ inl (rw no_door (omega arith)) | inr l ↦ inr (rw no_door (omega arith)) ]
        | inl door ↦
            let two = h n (omega arith) door in
            let last : count_to g (suc (suc n)) ≡ count_to g (suc n) + 1 = rw two.1 refl in
            let first : count_to g (suc n) ≡ count_to g n + 1 = rw two.0 refl in
            let here : count_to f (suc n) ≡ count_to f n + 1 = rw door refl in
            elim before [ inl z ↦ inr (omega arith) | inr l ↦ inr (omega arith) ]
      ]

-- every door is free or taken
split_count : (f t : ℕ → Bool) (n : ℕ) → count_to f n ≤ count_to (λ c. f c && not (t c)) n + count_to t n
split_count f t zero = omega arith
split_count f t (suc n) =
    let before = split_count f t n in
    elim (cases_Bool (f n)) [
      | inl a ↦ elim (cases_Bool (t n)) [ inl b ↦ rw (a, b) (omega arith) | inr b ↦ rw (a, b) (omega arith) ]
      | inr a ↦ elim (cases_Bool (t n)) [ inl b ↦ rw (a, b) (omega arith) | inr b ↦ rw (a, b) (omega arith) ]
    ]

pub some_count : (f : ℕ → Bool) (n c : ℕ) → c < n → f c ≡ true → 0 < count_to f n
some_count f zero c l h = absurd (omega arith)
some_count f (suc n) c l h = elim (eqb_tells c n) [
  | inl e ↦ let k : f n ≡ true = rw e.1 at h in rw k (omega arith)
  | inr e ↦ let before = some_count f n c (omega arith) h in omega arith
]

free_true : (a b : Bool) → (a && not b) ≡ true → (a ≡ true) × (b ≡ false)
free_true true false h = (refl, refl)
free_true true true h = absurd (cc)
free_true false b h = absurd (cc)

module _ (seen taken : ℕ → ℕ → Bool) (leads : (d c : ℕ) → c ≤ d → seen d c ≡ true → taken d c ≡ false → (seen (suc d) c ≡ true) × (seen (suc d) (suc c) ≡ true)) where
  -- from one diagonal to the next
  next_diagonal : (d : ℕ) → (count_to (seen d) (suc d) ≤ count_to (seen (suc d)) (suc (suc d)) + count_to (taken d) (suc d)) × (0 < count_to (seen (suc d)) (suc (suc d)) → count_to (seen d) (suc d) + 1 ≤ count_to (seen (suc d)) (suc (suc d)) + count_to (taken d) (suc d))
  next_diagonal d =
      let both = split_count (seen d) (taken d) (suc d) in
      elim (spread (λ c. seen d c && not (taken d c)) (seen (suc d)) (suc d) (λ c l h. let f = free_true (seen d c) (taken d c) h in leads d c (omega arith) f.0 f.1)) [
        | inl z ↦ (omega (arith, both, z), λ some. omega (arith, both, z, some))
        | inr l ↦ (omega (arith, both, l), λ some. omega (arith, both, l))
      ]

  -- as long as each diagonal has a door that was seen, doors seen and doors taken above grow
  grows : (d : ℕ) → seen 0 0 ≡ true → ((i : ℕ) → i ≤ d → 0 < count_to (seen i) (suc i)) → suc d ≤ count_to (seen d) (suc d) + doors_to taken d
  grows zero h each = rw h (omega arith)
  grows (suc d) h each =
      let before = grows d h (λ i l. each i (omega arith)) in
      let step = (next_diagonal d).1 (each (suc d) (omega arith)) in
      omega (arith, before, step)

  -- and they never shrink
  lasts : (n d : ℕ) → d ≤ n → count_to (seen d) (suc d) + doors_to taken d ≤ count_to (seen n) (suc n) + doors_to taken n
  lasts zero d l = let e : d ≡ 0 = omega arith in rw e (omega arith)
  lasts (suc n) d l = elim (eqb_tells d (suc n)) [
    | inl e ↦ subst (λ (x : ℕ). count_to (seen x) (suc x) + doors_to taken x ≤ count_to (seen (suc n)) (suc (suc n)) + doors_to taken (suc n)) (sym e.1) (omega arith)
    | inr e ↦ let before = lasts n d (omega arith) in let step = (next_diagonal n).0 in omega (arith, before, step)
  ]

  -- each diagonal above a door that was seen has one
  above : ((d c : ℕ) → c ≤ suc d → seen (suc d) c ≡ true → (b : ℕ) × (b ≤ d) × (seen d b ≡ true)) → (d c : ℕ) → c ≤ d → seen d c ≡ true → (i : ℕ) → i ≤ d → 0 < count_to (seen i) (suc i)
  above comes zero c l h i k = let e : i ≡ 0 = omega arith in rw e (some_count (seen 0) 1 c (omega arith) h)
  above comes (suc d) c l h i k = elim (eqb_tells i (suc d)) [
    | inl e ↦ subst (λ (x : ℕ). 0 < count_to (seen x) (suc x)) (sym e.1) (some_count (seen (suc d)) (suc (suc d)) c (omega arith) h)
    | inr e ↦ let b = comes d c l h in above comes d b.0 b.1 b.2 i (omega arith)
  ]

  -- a door that was seen is less deep than doors are taken
  pub depth_bound : ((d c : ℕ) → c ≤ suc d → seen (suc d) c ≡ true → (b : ℕ) × (b ≤ d) × (seen d b ≡ true)) → seen 0 0 ≡ true → (d c n : ℕ) → c ≤ d → seen d c ≡ true → d ≤ n → count_to (seen n) (suc n) ≡ 0 → suc d ≤ doors_to taken n
  depth_bound comes root d c n l h k z =
      let low = grows d root (above comes d c l h) in
      let high = lasts n d k in
      omega (arith, low, high, z)

-- where participants stand
abbrev pub is_taken : List (ℕ × ℕ) → ℕ → ℕ → Bool
is_taken [] d c = false
is_taken (p ∷ ps) d c = (d == p.0 && c == p.1) || is_taken ps d c

count_or : (f g : ℕ → Bool) (n : ℕ) → count_to (λ c. f c || g c) n ≤ count_to f n + count_to g n
count_or f g zero = omega arith
count_or f g (suc n) =
    let before = count_or f g n in
    elim (cases_Bool (f n)) [
      | inl a ↦ elim (cases_Bool (g n)) [ inl b ↦ rw (a, b) (omega arith) | inr b ↦ rw (a, b) (omega arith) ]
      | inr a ↦ elim (cases_Bool (g n)) [ inl b ↦ rw (a, b) (omega arith) | inr b ↦ rw (a, b) (omega arith) ]
    ]

doors_or : (f g : ℕ → ℕ → Bool) (n : ℕ) → doors_to (λ d c. f d c || g d c) n ≤ doors_to f n + doors_to g n
doors_or f g zero = omega arith
doors_or f g (suc n) = omega (arith, doors_or f g n, count_or (f n) (g n) (suc n))

count_none : (n : ℕ) → count_to (λ c. false) n ≡ 0
count_none zero = refl
count_none (suc n) = omega (arith, count_none n)

doors_none : (n : ℕ) → doors_to (λ d c. false) n ≡ 0
doors_none zero = refl
doors_none (suc n) = omega (arith, doors_none n, count_none (suc n))

count_at : (q n : ℕ) → ((count_to (λ c. c == q) n ≡ 0) × (n ≤ q)) ⊎ ((count_to (λ c. c == q) n ≡ 1) × (q < n))
count_at q zero = inl (refl, omega arith)
count_at q (suc n) = elim (eqb_tells n q) [
  | inl e ↦ elim (count_at q n) [ inl b ↦ inr (rw e.0 (omega arith), omega arith) | inr b ↦ absurd (omega arith) ]
  | inr e ↦ elim (count_at q n) [ inl b ↦ inl (rw e.0 (omega arith), omega arith) | inr b ↦ inr (rw e.0 (omega arith), omega arith) ]
]

count_there : (d q c n : ℕ) → d ≡ q → count_to (λ k. (d == q) && (k == c)) n ≤ 1
count_there d q c n e = let same : (d == q) ≡ true = (Decides-eqb d q).1 e in rw same (elim (count_at c n) [ inl b ↦ omega (arith, b.0) | inr b ↦ omega (arith, b.0) ])

count_elsewhere : (d q c n : ℕ) → d ≢ q → count_to (λ k. (d == q) && (k == c)) n ≡ 0
count_elsewhere d q c n other = elim (eqb_tells d q) [ inl e ↦ absurd (other e.1) | inr e ↦ rw e.0 (count_none n) ]

doors_at : (q c n : ℕ) → ((doors_to (λ d k. (d == q) && (k == c)) n ≡ 0) × (n ≤ q)) ⊎ ((doors_to (λ d k. (d == q) && (k == c)) n ≤ 1) × (q < n))
doors_at q c zero = inl (refl, omega arith)
doors_at q c (suc n) = elim (eqb_tells n q) [
  | inl e ↦ elim (doors_at q c n) [ inl b ↦ inr (omega (arith, count_there n q c (suc n) e.1, b.0), omega arith) | inr b ↦ absurd (omega arith) ]
  | inr e ↦ let none = count_elsewhere n q c (suc n) e.1 in elim (doors_at q c n) [ inl b ↦ inl (omega (arith, none, b.0), omega arith) | inr b ↦ inr (omega (arith, none, b.0), omega arith) ]
]

-- no more doors are taken than participants stand
pub taken_bound : (ps : List (ℕ × ℕ)) (n : ℕ) → doors_to (is_taken ps) n ≤ length ps
taken_bound [] n = omega (arith, doors_none n)
taken_bound (p ∷ ps) n =
    let one = elim (doors_at p.0 p.1 n) as (λ _. doors_to (λ d k. (d == p.0) && (k == p.1)) n ≤ 1) [ inl b ↦ omega (arith, b.0) | inr b ↦ b.0 ] in
    omega (arith, one, taken_bound ps n, doors_or (λ d k. (d == p.0) && (k == p.1)) (is_taken ps) n)
