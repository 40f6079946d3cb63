-- sums over the calls of all seats
use Rattle.std.proofs.Common.{◌≡◌, ◌≢◌, ℕ, zero, suc, ◌+◌, ◌<◌, ◌≤◌, sym, refl, ap, arith, List, [], ◌∷◌, ◌++◌, set}
use Rattle.words_pool.proofs.Common.{Call, PoolView, sum_of, own, tally, sum_below}
use mathlib.Core.Option.{some, some-ne-none, some-injective}
use mathlib.Core.Logic.{dite}
use native.Mathlib.Decide.{dec_le}
use lib.ListN.{get_elem?}

module _ (f : Call → ℕ) where
  same_own : (x v : PoolView) → some x ≡ some v → own f x ≡ own f v
  same_own x v e = ap (λ (y : PoolView). own f y) (some-injective x v e)

  pub tally_set : (vs : List PoolView) (i : ℕ) (v w : PoolView) → get_elem? vs i ≡ some v → tally f (set vs i w) + own f v ≡ tally f vs + own f w
  tally_set [] i v w e = absurd (some-ne-none v (sym e))
  tally_set (x ∷ xs) zero v w e = let s = same_own x v e in omega arith
  tally_set (x ∷ xs) (suc i) v w e = let s = tally_set xs i v w e in omega arith

  pub tally_snoc : (vs : List PoolView) (w : PoolView) → tally f (vs ++ w ∷ []) ≡ tally f vs + own f w
  tally_snoc [] w = omega arith
  tally_snoc (x ∷ xs) w = let s = tally_snoc xs w in omega arith

  pub tally_has : (vs : List PoolView) (i : ℕ) (v : PoolView) → get_elem? vs i ≡ some v → own f v ≤ tally f vs
  tally_has [] i v e = absurd (some-ne-none v (sym e))
  tally_has (x ∷ xs) zero v e = let s = same_own x v e in omega arith
  tally_has (x ∷ xs) (suc i) v e = let s = tally_has xs i v e in omega arith

  pub tally_two : (vs : List PoolView) (i j : ℕ) (v w : PoolView) → i ≢ j → get_elem? vs i ≡ some v → get_elem? vs j ≡ some w → own f v + own f w ≤ tally f vs
  tally_two [] i j v w n e d = absurd (some-ne-none v (sym e))
  tally_two (x ∷ xs) zero zero v w n e d = absurd (n refl)
  tally_two (x ∷ xs) zero (suc j) v w n e d = let s = same_own x v e in let t = tally_has xs j w d in omega arith
  tally_two (x ∷ xs) (suc i) zero v w n e d = let s = same_own x w d in let t = tally_has xs i v e in omega arith
  tally_two (x ∷ xs) (suc i) (suc j) v w n e d = let t = tally_two xs i j v w (λ s. n (ap suc s)) e d in omega arith

  -- where the sum is not 0, some seat has a share of it
  pub tally_finds : (vs : List PoolView) → 1 ≤ tally f vs → (i : ℕ) × (v : PoolView) × (get_elem? vs i ≡ some v) × (1 ≤ own f v)
  tally_finds [] h = absurd (omega arith)
  tally_finds (x ∷ xs) h = dite (dec_le 1 (own f x))
      (λ y. (zero, x, refl, y))
      (λ n. let t = tally_finds xs (omega arith) in (suc t.0, t.1, t.2, t.3))

  pub sum_both : (xs ys : List Call) → sum_of f (xs ++ ys) ≡ sum_of f xs + sum_of f ys
  sum_both [] ys = omega arith
  sum_both (x ∷ xs) ys = let s = sum_both xs ys in omega arith

module _ (f g h : Call → ℕ) (sums : (x : Call) → f x ≡ g x + h x) where
  sum_sum : (xs : List Call) → sum_of f xs ≡ sum_of g xs + sum_of h xs
  sum_sum [] = refl
  sum_sum (x ∷ xs) = let s = sum_sum xs in let t = sums x in omega arith

  -- a sum of sums
  pub tally_sum : (vs : List PoolView) → tally f vs ≡ tally g vs + tally h vs
  tally_sum [] = refl
  tally_sum (v ∷ vs) = let s = tally_sum vs in let t = sum_sum v.calls in let u = sum_sum v.past in omega arith

module _ (f g h : Call → ℕ) (within : (x : Call) → f x + g x ≤ h x) where
  sum_within : (xs : List Call) → sum_of f xs + sum_of g xs ≤ sum_of h xs
  sum_within [] = omega arith
  sum_within (x ∷ xs) = let s = sum_within xs in let t = within x in omega arith

  -- two sums within a third
  pub tally_within : (vs : List PoolView) → tally f vs + tally g vs ≤ tally h vs
  tally_within [] = omega arith
  tally_within (v ∷ vs) = let s = tally_within vs in let t = sum_within v.calls in let u = sum_within v.past in omega arith

module _ (f : ℕ → Call → ℕ) where
  sum_below_sum : (n : ℕ) (xs : List Call) → sum_below (λ p. sum_of (f p) xs) n ≡ sum_of (λ x. sum_below (λ p. f p x) n) xs
  sum_below_sum zero [] = refl
  sum_below_sum zero (x ∷ xs) = let s = sum_below_sum zero xs in omega arith
  sum_below_sum (suc n) xs = let s = sum_below_sum n xs in let t = sum_sum (λ x. sum_below (λ p. f p x) (suc n)) (λ x. sum_below (λ p. f p x) n) (f n) (λ x. refl) xs in omega arith

  -- sums over places and calls change their order
  pub tally_below : (n : ℕ) (vs : List PoolView) → sum_below (λ p. tally (f p) vs) n ≡ tally (λ x. sum_below (λ p. f p x) n) vs
  tally_below zero [] = refl
  tally_below zero (v ∷ vs) = let s = tally_below zero vs in let a = sum_below_sum zero v.calls in let b = sum_below_sum zero v.past in omega arith
  tally_below (suc n) vs = let s = tally_below n vs in let t = tally_sum (λ x. sum_below (λ p. f p x) (suc n)) (λ x. sum_below (λ p. f p x) n) (f n) (λ x. refl) vs in omega arith

pub below_same : (f g : ℕ → ℕ) (n : ℕ) → ((p : ℕ) → p < n → f p ≡ g p) → sum_below f n ≡ sum_below g n
below_same f g zero h = refl
below_same f g (suc n) h = let s = below_same f g n (λ p lt. h p (omega arith)) in let t = h n (omega arith) in omega arith
