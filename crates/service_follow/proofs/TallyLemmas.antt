-- names that are given, counted one by one
use Rattle.std.proofs.Common.{◌≡◌, ◌<◌, ◌≤◌, ◌+◌, ◌-◌, ◌∙◌, ℕ, Bool, true, false, take, get_or, length, ap, arith}
use Rattle.std.specs.List.{count_by, range_with_len}
use Rattle.std.proofs.lemmas.List.{take_all}
use Rattle.std.proofs.lemmas.List.FromFn.{get_or-range_with_len, length-range_with_len}
use Rattle.std.proofs.lemmas.List.Sums.{count_by_more_no, count_by_more_yes}

module _ (p : ℕ → Bool) (most i : ℕ) (some : 1 ≤ i) (within : i < most) where
  abbrev counted : ℕ → ℕ
  counted n = count_by p (take n (range_with_len 1 (most - 1)))

  number_at : get_or (range_with_len 1 (most - 1)) (i - 1) 0 ≡ i
  number_at = let at = get_or-range_with_len 1 (most - 1) (i - 1) 0 (omega (arith, some, within)) in omega (arith, at, some)

  inside : i - 1 < length (range_with_len 1 (most - 1))
  inside = omega (arith, length-range_with_len 1 (most - 1), some, within)

  next_is : i + 1 - 1 ≡ i - 1 + 1
  next_is = omega (arith, some)

  pub one_more : p i ≡ true → counted (i + 1 - 1) ≡ counted (i - 1) + 1
  one_more given = ap counted next_is ∙ count_by_more_yes p (range_with_len 1 (most - 1)) (i - 1) 0 inside (ap p number_at ∙ given)

  pub no_more : p i ≡ false → counted (i + 1 - 1) ≡ counted (i - 1)
  no_more free = ap counted next_is ∙ count_by_more_no p (range_with_len 1 (most - 1)) (i - 1) 0 inside (ap p number_at ∙ free)

-- all numbers were looked at
pub all_counted : (p : ℕ → Bool) (most number : ℕ) → most ≤ number → count_by p (take (number - 1) (range_with_len 1 (most - 1))) ≡ count_by p (range_with_len 1 (most - 1))
all_counted p most number over = ap (count_by p) (take_all (number - 1) (range_with_len 1 (most - 1)) (omega (arith, length-range_with_len 1 (most - 1), over)))
