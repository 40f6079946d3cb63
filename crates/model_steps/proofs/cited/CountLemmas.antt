-- how many numbers pass a test
use Rattle.std.proofs.Common.{◌≡◌, ℕ, zero, suc, ◌+◌, ◌<◌, ◌≤◌, Bool, true, false, cond, inl, inr, refl, ap, ◌∙◌, arith, if◌then◌else◌}
use Rattle.model_steps.proofs.Common.{eqb_tells, leb_tells, set_at}
use Rattle.std.proofs.lemmas.Bool.{cases_Bool}
use Rattle.model_steps.specs.Count.{count_to}

one_at_most : (b : Bool) → (if b then 1 else 0) ≤ 1
one_at_most true = omega arith
one_at_most false = omega arith

pub count_to-le : (f : ℕ → Bool) (n : ℕ) → count_to f n ≤ n
count_to-le f zero = omega arith
count_to-le f (suc n) = omega (arith, count_to-le f n, one_at_most (f n))

-- one that does not pass makes them fewer
pub count_to-lt : (f : ℕ → Bool) (n k : ℕ) → k < n → f k ≡ false → count_to f n < n
count_to-lt f zero k l h = absurd (omega arith)
count_to-lt f (suc n) k l h = elim (eqb_tells k n) [
  | inl e ↦ let none : f n ≡ false = rw e.1 at h in let before = count_to-le f n in rw none (omega arith)
  | inr e ↦ let before = count_to-lt f n k (let other = e.1 in omega arith) h in let one = one_at_most (f n) in omega arith
]

one_more : (b c : Bool) → (b ≡ true → c ≡ true) → (if b then 1 else 0) ≤ (if c then 1 else 0)
one_more true c h = rw (h refl) (omega arith)
one_more false c h = omega arith

-- where each that passes one test passes another, no fewer pass that
pub count_to-mono : (f g : ℕ → Bool) (n : ℕ) → ((k : ℕ) → k < n → f k ≡ true → g k ≡ true) → count_to f n ≤ count_to g n
count_to-mono f g zero h = omega arith
count_to-mono f g (suc n) h =
    let before = count_to-mono f g n (λ k l. h k (omega arith)) in
    let one = one_more (f n) (g n) (h n (omega arith)) in
    omega arith

-- and more, where one passes that failed
pub count_to-gain : (f g : ℕ → Bool) (n k : ℕ) → k < n → f k ≡ false → g k ≡ true → ((i : ℕ) → i < n → f i ≡ true → g i ≡ true) → count_to f n + 1 ≤ count_to g n
count_to-gain f g zero k l a b h = absurd (omega arith)
count_to-gain f g (suc n) k l a b h = elim (eqb_tells k n) [
  | inl e ↦
      let none : f n ≡ false = rw e.1 at a in
      let some : g n ≡ true = rw e.1 at b in
      let before = count_to-mono f g n (λ i m. h i (omega arith)) in
      rw (none, some) (omega arith)
  | inr e ↦
      let before = count_to-gain f g n k (let other = e.1 in omega arith) a b (λ i m. h i (omega arith)) in
      let one = one_more (f n) (g n) (h n (omega arith)) in
      omega arith
]

-- of more numbers no fewer pass
pub count_to-longer : (f : ℕ → Bool) (n m : ℕ) → n ≤ m → count_to f n ≤ count_to f m
count_to-longer f n zero l = let none : n ≡ 0 = omega arith in rw none (omega arith)
count_to-longer f n (suc m) l = elim (eqb_tells n (suc m)) [
  | inl e ↦ let same : count_to f n ≡ count_to f (suc m) = ap (count_to f) e.1 in omega arith
  | inr e ↦ let before = count_to-longer f n m (let other = e.1 in omega arith) in omega arith
]

pub count_to-below : (f : ℕ → Bool) (top n : ℕ) → ((k : ℕ) → f k ≡ true → k < top) → count_to f n ≤ top
count_to-below f top zero low = omega arith
count_to-below f top (suc n) low = elim (cases_Bool (f n)) [
  | inl e ↦ let last = low n e in let before = count_to-le f n in rw e (omega arith)
  | inr e ↦ let before = count_to-below f top n low in rw e (omega arith)
]

-- nothing passes where nothing passes
pub count_none : (n : ℕ) → count_to (λ k. false) n ≡ 0
count_none zero = refl
count_none (suc n) = omega (arith, count_none n)

-- what passes more lets pass as many
pub count_le : (f g : ℕ → Bool) → ((k : ℕ) → f k ≡ true → g k ≡ true) → (n : ℕ) → count_to f n ≤ count_to g n
count_le f g more zero = omega arith
count_le f g more (suc n) =
    let rest : count_to f n ≤ count_to g n = count_le f g more n in
    elim (f n) as (λ b. f n ≡ b → count_to f n + cond b 1 0 ≤ count_to g n + cond (g n) 1 0) [
      | true ↦ λ e. rw (more n e) (omega arith)
      | false ↦ λ e. elim (g n) as (λ b. count_to f n + 0 ≤ count_to g n + cond b 1 0) [ true ↦ omega arith | false ↦ omega arith ]
    ] refl

-- one number more that passes
pub count_below : (f : ℕ → Bool) (p n : ℕ) → n ≤ p → count_to (set_at f p true) n ≡ count_to f n
count_below f p zero h = refl
count_below f p (suc n) h = elim (eqb_tells n p) [
  | inl e ↦ absurd (omega (arith, e.1))
  | inr e ↦ rw e.0 (ap (λ x. x + cond (f n) 1 0) (count_below f p n (omega arith)))
]

pub count_more : (f : ℕ → Bool) (p n : ℕ) → f p ≡ false → p < n → count_to (set_at f p true) n ≡ count_to f n + 1
count_more f p zero none h = absurd (omega arith)
count_more f p (suc n) none h = elim (eqb_tells n p) [
  | inl e ↦
      let rest : count_to (set_at f p true) n ≡ count_to f n = count_below f p n (omega (arith, e.1)) in
      let was : f n ≡ false = ap f e.1 ∙ none in
      rw (e.0, was) (omega (arith, rest))
  | inr e ↦
      let rest : count_to (set_at f p true) n ≡ count_to f n + 1 = count_more f p n none (omega (arith, e.1)) in
      rw e.0 (omega (arith, rest))
]

-- one number more makes the count at most one more
pub count_set : (f : ℕ → Bool) (p n : ℕ) → count_to (set_at f p true) n ≤ count_to f n + 1
count_set f p n = elim (f p) as (λ b. f p ≡ b → count_to (set_at f p true) n ≤ count_to f n + 1) [
  | true ↦ λ e. let le : count_to (set_at f p true) n ≤ count_to f n = count_le (set_at f p true) f (λ k h. elim (eqb_tells k p) [ inl t ↦ ap f t.1 ∙ e | inr t ↦ rw t.0 at h ]) n in omega arith
  | false ↦ λ e. elim (leb_tells (suc p) n) [
    | inl l ↦ let more = count_more f p n e l.1 in omega arith
    | inr l ↦ let same = count_below f p n (omega (arith, l.1)) in omega arith
  ]
] refl
