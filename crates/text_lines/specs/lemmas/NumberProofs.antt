-- numbers and their digits
use Rattle.std.proofs.Common.{◌≡◌, ℕ, ◌+◌, ◌-◌, ◌*◌, ◌/◌, ◌%◌, ◌<◌, ◌≤◌, ap, ◌∙◌, ◌++◌, List, [], ◌∷◌, decimal, arith}
use Rattle.std.proofs.lemmas.Fmt.{decimal_digit, decimal_step}
use Rattle.text_lines.specs.Meaning.{decimal_from}

-- more digits make no smaller number
pub decimal_from-grows : (n : ℕ) (digits : List ℕ) → n ≤ decimal_from n digits
decimal_from-grows n [] = omega arith
decimal_from-grows n (b ∷ bs) = omega (arith, decimal_from-grows (n * 10 + (b - 48)) bs)

-- a number of two digits
pub decimal_two : (n : ℕ) → 10 ≤ n → n < 100 → decimal n ≡ (48 + n / 10) ∷ (48 + n % 10) ∷ []
decimal_two n low high = decimal_step n low (omega arith) ∙ ap (λ l. l ++ (48 + n % 10) ∷ []) (decimal_digit (n / 10) (omega arith))
