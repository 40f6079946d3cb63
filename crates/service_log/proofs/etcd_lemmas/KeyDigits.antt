-- Digits are read back as the number whose they are.
use Rattle.std.proofs.Common.{◌≡◌, ℕ, zero, suc, ◌+◌, ◌-◌, ◌*◌, ◌/◌, ◌%◌, ◌<◌, ◌≤◌, ◌^◌, true, Some, List, [], ◌∷◌, ◌++◌, length, get_or, take, refl, ap, sym, ◌∙◌, arith}
use Rattle.std.proofs.Math.Seq.{take-suc}
use Rattle.std.proofs.lemmas.Bool.Decides.{nat_tests}
use Rattle.std.proofs.lemmas.List.Elements.{All-get_or}
use Rattle.std.proofs.lemmas.List.{take_all}
use Rattle.std.proofs.lemmas.List.Sums.{AllPass-from_list_all}
use Rattle.std.specs.Char.{is_ascii_digit}
use Rattle.std.specs.List.{list_all}
use Rattle.service_log.specs.etcd.Keys.{digits, key_of, number_from, place_said}

pub number_more : (n : ℕ) (ds : List ℕ) (d : ℕ) → number_from n (ds ++ d ∷ []) ≡ number_from n ds * 10 + (d - 48)
number_more n [] d = refl
number_more n (e ∷ ds) d = number_more (n * 10 + (e - 48)) ds d

-- ten to the power
abbrev pub tens : ℕ → ℕ
tens zero = 1
tens (suc k) = 10 * tens k

pub digits_back : (k n : ℕ) → n < tens k → number_from 0 (digits k n) ≡ n
digits_back zero n less = omega (arith, less)
digits_back (suc k) n less =
    let part : n / 10 < tens k = omega (arith, less) in
    let front = digits_back k (n / 10) part in
    let whole = number_more 0 (digits k (n / 10)) (48 + n % 10) in
    omega (arith, front, whole)

pub behind_prefix : (prefix xs ys : List ℕ) → prefix ++ xs ≡ prefix ++ ys → xs ≡ ys
behind_prefix [] xs ys e = e
behind_prefix (x ∷ prefix) xs ys e = behind_prefix prefix xs ys (cc e)

pub keys_differ : (prefix : List ℕ) (p q : ℕ) → p < 10 ^ 16 → q < 10 ^ 16 → key_of prefix p ≡ key_of prefix q → p ≡ q
keys_differ prefix p q first second e =
    sym (digits_back 16 p first) ∙ (ap (number_from 0) (behind_prefix prefix (digits 16 p) (digits 16 q) e) ∙ digits_back 16 q second)

pub digits_more : (count n : ℕ) → 1 ≤ count → digits count n ≡ digits (count - 1) (n / 10) ++ (48 + n % 10) ∷ []
digits_more zero n some = absurd (omega (arith, some))
digits_more (suc k) n some = let e : suc k - 1 ≡ k = omega arith in ap (λ (j : ℕ). digits j (n / 10) ++ (48 + n % 10) ∷ []) (sym e)

-- the powers of ten only grow
tens_least : (n k : ℕ) → k ≤ n → (1 ≤ tens k) × (tens k ≤ tens n)
tens_least zero zero few = (omega arith, omega arith)
tens_least zero (suc k) few = absurd (omega (arith, few))
tens_least (suc n) zero few = let rest = tens_least n zero (omega arith) in (omega arith, omega (arith, rest.0, rest.1))
tens_least (suc n) (suc k) few = let rest = tens_least n k (omega (arith, few)) in (omega (arith, rest.0), omega (arith, rest.1))

-- a digit is a number below ten, from 48 on
digit_range : (d : ℕ) → is_ascii_digit d ≡ true → (48 ≤ d) × (d ≤ 57)
digit_range d is = grind (arith, nat_tests)

-- of 16 digits, the number that the next one gives with those before it
pub record GoesOnBy (bytes : List ℕ) (i place : ℕ) : Type 0 where
  pub low : 48 ≤ get_or bytes i 0
  pub high : get_or bytes i 0 ≤ 57
  pub more : place * 10 + (get_or bytes i 0 - 48) ≡ number_from 0 (take (suc i) bytes)
  pub below : place * 10 + (get_or bytes i 0 - 48) < tens (suc i)
  pub small : place * 10 + (get_or bytes i 0 - 48) < 10 ^ 16

pub goes_on_by : (bytes : List ℕ) (i place : ℕ) → length bytes ≡ 16 → i < length bytes → list_all is_ascii_digit bytes ≡ true → place ≡ number_from 0 (take i bytes) → place < tens i →
    GoesOnBy bytes i place
goes_on_by bytes i place long within all is less =
    let d = get_or bytes i 0 in
    let range = digit_range d (All-get_or (λ b. is_ascii_digit b ≡ true) bytes i 0 within (AllPass-from_list_all is_ascii_digit bytes all)) in
    let whole : number_from 0 (take (suc i) bytes) ≡ number_from 0 (take i bytes) * 10 + (d - 48) = ap (number_from 0) (take-suc bytes i 0 within) ∙ number_more 0 (take i bytes) d in
    let most = (tens_least 16 (suc i) (omega (arith, long, within))).1 in
    record {
      low = range.0;
      high = range.1;
      more = omega (arith, whole, is);
      below = omega (arith, less, range.0, range.1);
      small = omega (arith, less, range.0, range.1, most);
    }

pub says_place : (bytes : List ℕ) (i place : ℕ) → length bytes ≡ 16 → list_all is_ascii_digit bytes ≡ true → length bytes ≤ i → place ≡ number_from 0 (take i bytes) → Some place ≡ place_said bytes
says_place bytes i place long all whole is =
    let e : Some place ≡ Some (number_from 0 bytes) = ap Some (is ∙ ap (number_from 0) (take_all i bytes whole)) in
    rw (long, all) e
