-- counts of seats
use Rattle.std.proofs.Common.{◌≡◌, ℕ, zero, suc, ◌+◌, ◌-◌, ◌<◌, ◌≤◌, ◌⊎◌, inl, inr, Bool, true, false, refl, ap, arith, if◌then◌else◌}
use Rattle.std.proofs.lemmas.Bool.{cases_Bool}
use Rattle.std.proofs.lemmas.Bool.Decides.{eqb_tells}
use Rattle.model_steps.specs.Count.{count_to}
use Rattle.model_steps.proofs.cited.CountLemmas.{count_to-gain, count_none}

-- one that passes
pub count_some : (f : ℕ → Bool) (n k : ℕ) → k < n → f k ≡ true → 1 ≤ count_to f n
count_some f n k l h = let none = count_none n in let gain = count_to-gain (λ _. false) f n k l refl h (λ i m e. absurd (cc)) in omega arith

-- nobody passes, or one does
pub count_tells : (f : ℕ → Bool) (n : ℕ) → (count_to f n ≡ 0) ⊎ ((k : ℕ) × (k < n) × (f k ≡ true))
count_tells f zero = inl refl
count_tells f (suc n) = elim (cases_Bool (f n)) [
  | inl e ↦ inr (n, (omega arith), e)
  | inr e ↦ elim (count_tells f n) [ inl none ↦ inl (rw e (omega arith)) | inr some ↦ inr (some.0, (let l = some.1 in omega arith), some.2) ]
]

-- two kinds of those that pass
pub count_two : (f g h : ℕ → Bool) (n : ℕ) → ((k : ℕ) → (if f k then 1 else 0) + (if g k then 1 else 0) ≤ (if h k then 1 else 0)) → count_to f n + count_to g n ≤ count_to h n
count_two f g h zero each = omega arith
count_two f g h (suc n) each = let before = count_two f g h n each in let one = each n in omega arith

-- of d numbers more at most d pass
pub count_rest : (f : ℕ → Bool) (k n : ℕ) → k ≤ n → count_to f n ≤ count_to f k + (n - k)
count_rest f k zero l = let none : k ≡ 0 = omega arith in rw none (omega arith)
count_rest f k (suc n) l = elim (eqb_tells k (suc n)) [
  | inl e ↦ let same : count_to f k ≡ count_to f (suc n) = ap (count_to f) e.1 in omega arith
  | inr e ↦ let before = count_rest f k n (let other = e.1 in omega arith) in elim (f n) as (λ b. count_to f n + (if b then 1 else 0) ≤ count_to f k + (suc n - k)) [ true ↦ (let other = e.1 in omega arith) | false ↦ (let other = e.1 in omega arith) ]
]
