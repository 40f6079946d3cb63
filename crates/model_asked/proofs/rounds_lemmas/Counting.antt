-- free numbers, where more or fewer are taken
use Rattle.std.proofs.Common.{◌≡◌, ℕ, zero, suc, ◌+◌, ◌<◌, ◌≤◌, Bool, true, false, cond, inl, inr, refl, arith}
use Rattle.model_asked.proofs.rounds_lemmas.Common.{leb_tells}
use Rattle.model_asked.proofs.cited.rounds.Numbers.{free_rises}
use Rattle.model_asked.specs.rounds.Proposals.{free_up_to, least_with}

-- below the least number up to which so many are free, fewer are
pub least_below : (taken : ℕ → Bool) (r n m : ℕ) → m < least_with taken r n → free_up_to taken m < r
least_below taken r zero m l = absurd (omega arith)
least_below taken r (suc n) m l = elim (leb_tells r (free_up_to taken n)) [
  | inl e ↦ least_below taken r n m (rw e.0 at l)
  | inr e ↦ let few = e.1 in let below : m < suc n = rw e.0 at l in let up = free_rises taken m n (omega arith) in omega arith
]

module _ (fixed taken : ℕ → Bool) (more : (n : ℕ) → fixed n ≡ true → taken n ≡ true) where
  -- where more are taken, fewer are free
  pub free_fewer : (n : ℕ) → free_up_to taken n ≤ free_up_to fixed n
  free_fewer zero = omega arith
  free_fewer (suc n) =
      let i = free_fewer n in
      elim (fixed (suc n)) as (λ b. fixed (suc n) ≡ b → cond (taken (suc n)) 0 1 + free_up_to taken n ≤ cond b 0 1 + free_up_to fixed n) [
        | true ↦ λ e. rw (more (suc n) e) (omega arith)
        | false ↦ λ e. elim (taken (suc n)) as (λ b. cond b 0 1 + free_up_to taken n ≤ 1 + free_up_to fixed n) [ true ↦ omega arith | false ↦ omega arith ]
      ] refl

  -- where those that are taken besides are high, the r-th that is free is the r-th of either
  module _ (r x : ℕ) (least : (m : ℕ) → m < x → free_up_to taken m < r) (high : (n : ℕ) → taken n ≡ true → fixed n ≡ false → r < free_up_to fixed n) where
    pub same_free : (m : ℕ) → m ≤ x → free_up_to fixed m ≡ free_up_to taken m
    same_free zero l = refl
    same_free (suc m) l =
        let i = same_free m (omega arith) in
        let few = least m (omega arith) in
        elim (fixed (suc m)) as (λ b. fixed (suc m) ≡ b → cond b 0 1 + free_up_to fixed m ≡ cond (taken (suc m)) 0 1 + free_up_to taken m) [
          | true ↦ λ e. rw (more (suc m) e) (omega arith)
          | false ↦ λ e. elim (taken (suc m)) as (λ b. taken (suc m) ≡ b → 1 + free_up_to fixed m ≡ cond b 0 1 + free_up_to taken m) [
            | true ↦ λ t. let up = high (suc m) t e in absurd (let is : free_up_to fixed (suc m) ≡ 1 + free_up_to fixed m = rw e refl in omega arith)
            | false ↦ λ t. omega arith
          ] refl
        ] refl
