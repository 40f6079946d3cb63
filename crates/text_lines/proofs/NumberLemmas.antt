-- numbers that digits write
use Rattle.std.proofs.Common.{◌≡◌, ℕ, ◌+◌, ◌-◌, ◌*◌, ◌<◌, ◌≤◌, length, get_or, drop, ap, ◌∙◌, List, Some, None, arith}
use Rattle.text_lines.proofs.Common.{nat_tests, decimal_from, if_below}
use Rattle.std.proofs.lemmas.List.{at_drop_more, at_drop_all}
use Rattle.text_lines.specs.lemmas.NumberProofs.{decimal_from-grows}

-- a number that does not fit with the digits so far and one more does not fit with them all
pub too_large : (bound n : ℕ) (word : List ℕ) (i : ℕ) → i < length word → bound ≤ n * 10 + (get_or word i 0 - 48) → if_below bound (decimal_from n (drop i word)) ≡ None
too_large bound n word i lt large =
    let all : bound ≤ decimal_from n (drop i word) = omega (arith, large, decimal_from-grows (n * 10 + (get_or word i 0 - 48)) (drop (i + 1) word), at_drop_more (decimal_from n) word i 0 lt) in
    grind (arith, nat_tests, all)

-- where the digits end, what they wrote so far is the number
pub all_read : (bound n : ℕ) (word : List ℕ) (i : ℕ) → length word ≤ i → n < bound → if_below bound (decimal_from n (drop i word)) ≡ Some n
all_read bound n word i le lt = ap (if_below bound) (at_drop_all (decimal_from n) word i le) ∙ grind (arith, nat_tests, lt)
