-- how many of the first numbers pass a test
use Rattle.std.proofs.Common.{◌≡◌, ℕ, zero, suc, ◌<◌, ◌≤◌, Bool, true, inl, inr, arith}
use Rattle.std.proofs.lemmas.Bool.{cases_Bool}
use Rattle.model_steps.specs.Count.{count_to}
use Rattle.model_steps.proofs.cited.CountLemmas.{count_to-le}

-- of so many no more pass than those below a bound
pub count_low : (f : ℕ → Bool) (top n : ℕ) → ((k : ℕ) → k < n → f k ≡ true → k < top) → count_to f n ≤ top
count_low f top zero low = omega arith
count_low f top (suc n) low = elim (cases_Bool (f n)) [
  | inl e ↦ let last = low n (omega arith) e in let before = count_to-le f n in rw e (omega arith)
  | inr e ↦ let before = count_low f top n (λ k l. low k (omega arith)) in rw e (omega arith)
]
