-- what is written of a number is read as it
use Rattle.std.proofs.Common.{◌≡◌, ℕ, zero, suc, ◌+◌, ◌-◌, ◌*◌, ◌/◌, ◌%◌, ◌^◌, ◌<◌, ◌≤◌, true, List, [], ◌∷◌, ◌++◌, length, get_or, Some, decimal, refl, ◌∙◌, arith, length-append}
use Rattle.text_records.proofs.Common.{list_all, nat_tests, ne_eqb, lt-ltb, list_all-append, is_digit, decimal_from, number_in, number_below}
use Rattle.std.proofs.lemmas.Fmt.{decimal_digit, decimal_by_steps_wide}

-- digits that write this number, with no leading zero but of 0
pub record AreDigitsOf (n : ℕ) (ds : List ℕ) : Type 0 where
  pub digits : list_all is_digit ds ≡ true
  pub value : decimal_from 0 ds ≡ n
  pub some : 0 < length ds
  pub first : 0 < n → 48 < get_or ds 0 0

decimal_from-append : (n : ℕ) (xs ys : List ℕ) → decimal_from n (xs ++ ys) ≡ decimal_from (decimal_from n xs) ys
decimal_from-append n [] ys = refl
decimal_from-append n (x ∷ xs) ys = decimal_from-append (n * 10 + (x - 48)) xs ys

digit_is : (n : ℕ) → n < 10 → is_digit (48 + n) ≡ true
digit_is n h = grind (arith, nat_tests)

one_digit : (n : ℕ) → n < 10 → AreDigitsOf n ((48 + n) ∷ [])
one_digit n h = record { digits = rw (digit_is n h) refl; value = omega arith; some = omega arith; first = λ some. omega arith }

first_kept : (ds more : List ℕ) → 0 < length ds → get_or (ds ++ more) 0 0 ≡ get_or ds 0 0
first_kept [] more some = absurd (omega arith)
first_kept (d ∷ ds) more some = refl

more_digits : (n : ℕ) (ds : List ℕ) → 10 ≤ n → AreDigitsOf (n / 10) ds → AreDigitsOf n (ds ++ (48 + n % 10) ∷ [])
more_digits n ds h front =
    let small : n % 10 < 10 = omega arith in
    let some = front.some in
    let high : 0 < n / 10 = omega arith in
    let starts : 48 < get_or ds 0 0 = front.first high in
    let value = front.value in
    record {
      digits = list_all-append is_digit ds ((48 + n % 10) ∷ []) ∙ rw (front.digits, digit_is (n % 10) small) refl;
      value = decimal_from-append 0 ds ((48 + n % 10) ∷ []) ∙ omega arith;
      some = omega (arith, length-append ds ((48 + n % 10) ∷ []));
      first = λ above. (let kept = first_kept ds ((48 + n % 10) ∷ []) some in omega arith);
    }

pub decimal_digits : (n : ℕ) → n < 10 ^ 64 → AreDigitsOf n (decimal n)
decimal_digits n h = decimal_by_steps_wide AreDigitsOf one_digit more_digits n h

read_digits : (bound n : ℕ) (ds : List ℕ) → AreDigitsOf n ds → 0 < n → n < bound → number_below bound ds ≡ Some n
read_digits bound n [] a some below = absurd (let l = a.some in omega arith)
read_digits bound n (d ∷ ds) a some below =
    let first : 48 < d = a.first some in
    rw (a.digits, ne_eqb d 48 (λ e. omega arith), a.value, lt-ltb n bound below) refl

pub read_decimal : (bound n : ℕ) → n < bound → n < 10 ^ 64 → number_below bound (decimal n) ≡ Some n
read_decimal bound zero below small = rw (decimal_digit 0 (omega arith)) refl
read_decimal bound (suc n) below small = read_digits bound (suc n) (decimal (suc n)) (decimal_digits (suc n) small) (omega arith) below

pub number_in-decimal : (n : ℕ) → n < 2 ^ 64 → number_in (decimal n) ≡ Some n
number_in-decimal n h = read_decimal (2 ^ 64) n h (omega arith)
