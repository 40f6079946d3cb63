-- eight digits that are read as one word
use Rattle.std.proofs.Common.{◌≡◌, ℕ, zero, suc, ◌+◌, ◌-◌, ◌*◌, ◌/◌, ◌%◌, ◌^◌, ◌<◌, ◌≤◌, bit_and, true, List, [], ◌∷◌, ◌++◌, map, length, take, get_or, refl, sym, ap, ◌∙◌, arith}
use Rattle.text_lines.proofs.Common.{list_all, and_from, is_digit, decimal_from}
use Rattle.std.proofs.lemmas.Nat.{and_block, and_mask, and_le_l}
use Rattle.std.proofs.lemmas.Nat.Bits.{and_high}
use Rattle.std.proofs.Math.Nat.{mod-eq_of_lt}
use Rattle.text_lines.specs.Digits.{DigitsSoFar, IsNumberOf, number_from, word_of}
use Rattle.text_lines.proofs.QuickLemmas.{digit_in_range}

-- ---- the number of eight digits

-- the mask keeps bytes 0 and 4
two_bytes : (x : ℕ) → bit_and x 0xff_0000_00ff ≡ x / 2 ^ 32 % 256 * 2 ^ 32 + x % 2 ^ 32 % 256
two_bytes x =
    let halves : x ≡ x / 2 ^ 32 * 2 ^ 32 + x % 2 ^ 32 = omega arith in
    ap (λ y. bit_and y 0xff_0000_00ff) halves ∙ and_block 32 (x / 2 ^ 32) 255 (x % 2 ^ 32) 255 (omega arith) (omega arith)
    ∙ rw (and_mask (x / 2 ^ 32) 8, and_mask (x % 2 ^ 32) 8) refl

first_and_third : (p r : ℕ) → p < 100 → r < 100 → (r * 2 ^ 32 + p) * 4294967296000100 % 2 ^ 64 ≡ (p * 1000000 + r * 100) * 2 ^ 32 + p * 100
first_and_third p r few few2 = omega arith

second_and_last : (q s : ℕ) → q < 100 → s < 100 → (s * 2 ^ 32 + q) * 42949672960001 % 2 ^ 64 ≡ (q * 10000 + s) * 2 ^ 32 + q
second_and_last q s few few2 = omega arith

upper_half : (n low : ℕ) → low < 2 ^ 32 → (n * 2 ^ 32 + low) / 2 ^ 32 ≡ n
upper_half n low small = omega arith

low_byte : (n low : ℕ) → low < 256 → (n * 256 + low) % 256 ≡ low
low_byte n low small = omega arith

all_pairs : (p q r s : ℕ) → p < 100 → q < 100 → r < 100 → s < 100 →
    ((p * 1000000 + r * 100) * 2 ^ 32 + p * 100 + ((q * 10000 + s) * 2 ^ 32 + q)) % 2 ^ 64 / 2 ^ 32 ≡ p * 1000000 + q * 10000 + r * 100 + s
all_pairs p q r s fp fq fr fs =
    let sum = (p * 1000000 + r * 100) * 2 ^ 32 + p * 100 + ((q * 10000 + s) * 2 ^ 32 + q) in
    let small : sum < 2 ^ 64 = omega arith in
    let halves : sum ≡ (p * 1000000 + q * 10000 + r * 100 + s) * 2 ^ 32 + (p * 100 + q) = omega arith in
    ap (λ x. x / 2 ^ 32) (mod-eq_of_lt small ∙ halves) ∙ upper_half (p * 1000000 + q * 10000 + r * 100 + s) (p * 100 + q) (omega arith)

-- p, q, r and s are the pairs, and x, y, z and w what stands between them
of_pairs : (p x q y r z s w pairs : ℕ) → p < 100 → x < 100 → q < 100 → y < 100 → r < 100 → z < 100 → s < 100 → w < 100 →
    pairs ≡ p + 2 ^ 8 * x + 2 ^ 16 * q + 2 ^ 24 * y + 2 ^ 32 * r + 2 ^ 40 * z + 2 ^ 48 * s + 2 ^ 56 * w →
    (bit_and pairs 0xff_0000_00ff * 4294967296000100 % 2 ^ 64 + bit_and (pairs / 2 ^ 16) 0xff_0000_00ff * 42949672960001 % 2 ^ 64) % 2 ^ 64 / 2 ^ 32 ≡ p * 1000000 + q * 10000 + r * 100 + s
of_pairs p x q y r z s w pairs fp fx fq fy fr fz fs fw is =
    let high : pairs / 2 ^ 32 ≡ (z + 2 ^ 8 * s + 2 ^ 16 * w) * 256 + r = omega arith in
    let low : pairs % 2 ^ 32 ≡ (x + 2 ^ 8 * q + 2 ^ 16 * y) * 256 + p = omega arith in
    let down : pairs / 2 ^ 16 ≡ (w * 256 + s) * 2 ^ 32 + ((y + 2 ^ 8 * r + 2 ^ 16 * z) * 256 + q) = omega arith in
    let down_high : pairs / 2 ^ 16 / 2 ^ 32 ≡ w * 256 + s = ap (λ n. n / 2 ^ 32) down ∙ upper_half (w * 256 + s) ((y + 2 ^ 8 * r + 2 ^ 16 * z) * 256 + q) (omega arith) in
    let down_low : pairs / 2 ^ 16 % 2 ^ 32 ≡ (y + 2 ^ 8 * r + 2 ^ 16 * z) * 256 + q = omega (arith, down) in
    let third : pairs / 2 ^ 32 % 256 ≡ r = ap (λ n. n % 256) high ∙ low_byte (z + 2 ^ 8 * s + 2 ^ 16 * w) r (omega arith) in
    let first : pairs % 2 ^ 32 % 256 ≡ p = ap (λ n. n % 256) low ∙ low_byte (x + 2 ^ 8 * q + 2 ^ 16 * y) p (omega arith) in
    let last : pairs / 2 ^ 16 / 2 ^ 32 % 256 ≡ s = ap (λ n. n % 256) down_high ∙ low_byte w s (omega arith) in
    let second : pairs / 2 ^ 16 % 2 ^ 32 % 256 ≡ q = ap (λ n. n % 256) down_low ∙ low_byte (y + 2 ^ 8 * r + 2 ^ 16 * z) q (omega arith) in
    rw (two_bytes pairs, two_bytes (pairs / 2 ^ 16), third, first, last, second, first_and_third p r fp fr, second_and_last q s fq fs) (all_pairs p q r s fp fq fr fs)

number_of_eight : (a b c d e f g h word : ℕ) → a < 10 → b < 10 → c < 10 → d < 10 → e < 10 → f < 10 → g < 10 → h < 10 → word ≡ word_of (a ∷ b ∷ c ∷ d ∷ e ∷ f ∷ g ∷ h ∷ []) →
    (let pairs = (word * 10 % 2 ^ 64 + word / 2 ^ 8) % 2 ^ 64 in
    (bit_and pairs 0xff_0000_00ff * 4294967296000100 % 2 ^ 64 + bit_and (pairs / 2 ^ 16) 0xff_0000_00ff * 42949672960001 % 2 ^ 64) % 2 ^ 64 / 2 ^ 32) ≡ number_from 0 (a ∷ b ∷ c ∷ d ∷ e ∷ f ∷ g ∷ h ∷ [])
number_of_eight a b c d e f g h word fa fb fc fd fe ff fg fh word_is =
    let tens : word * 10 < 2 ^ 64 = omega arith in
    let down : word / 2 ^ 8 ≡ b + 256 * (c + 256 * (d + 256 * (e + 256 * (f + 256 * (g + 256 * h))))) = omega arith in
    let small : word * 10 + word / 2 ^ 8 < 2 ^ 64 = omega arith in
    let pairs : (word * 10 % 2 ^ 64 + word / 2 ^ 8) % 2 ^ 64 ≡ 10 * a + b + 2 ^ 8 * (10 * b + c) + 2 ^ 16 * (10 * c + d) + 2 ^ 24 * (10 * d + e) + 2 ^ 32 * (10 * e + f) + 2 ^ 40 * (10 * f + g) + 2 ^ 48 * (10 * g + h) + 2 ^ 56 * (10 * h) =
    rw (mod-eq_of_lt tens, mod-eq_of_lt small) (omega (arith, down)) in
    of_pairs (10 * a + b) (10 * b + c) (10 * c + d) (10 * d + e) (10 * e + f) (10 * f + g) (10 * g + h) (10 * h) _ (omega arith) (omega arith) (omega arith) (omega arith) (omega arith) (omega arith) (omega arith) (omega arith) pairs
    ∙ omega arith

pub value_is : (word : ℕ) → IsNumberOf word (let pairs = (word * 10 % 2 ^ 64 + word / 2 ^ 8) % 2 ^ 64 in
    (bit_and pairs 0xff_0000_00ff * 4294967296000100 % 2 ^ 64 + bit_and (pairs / 2 ^ 16) 0xff_0000_00ff * 42949672960001 % 2 ^ 64) % 2 ^ 64 / 2 ^ 32)
value_is word (a ∷ b ∷ c ∷ d ∷ e ∷ f ∷ g ∷ h ∷ []) digits =
    let small = digits.small in
    number_of_eight a b c d e f g h word (small 0) (small 1) (small 2) (small 3) (small 4) (small 5) (small 6) (small 7) digits.word_is
value_is word _ digits = let eight = digits.eight in absurd (omega arith)

-- ---- which bytes are digits

-- a word with this in each of its bytes, of which there are as many as these
abbrev in_each : ℕ → List ℕ → ℕ
in_each x [] = 0
in_each x (b ∷ bs) = in_each x bs * 256 + x

abbrev values : List ℕ → List ℕ
values bs = map (λ b. b - 48) bs

-- bytes that are digits, and what a word of them is more than their values
record AreDigits (bs : List ℕ) : Type 0 where
  digits : list_all is_digit bs ≡ true
  small : (i : ℕ) → get_or (values bs) i 0 < 10
  more : in_each 48 bs ≤ word_of bs
  less_zeros : word_of bs - in_each 48 bs ≡ word_of (values bs)

-- the upper halves of the lowest byte and of the others
upper_halves : (w masks b : ℕ) → b < 256 → bit_and (w * 256 + b) (masks * 256 + 240) ≡ bit_and w masks * 256 + b / 16 % 16 * 16
upper_halves w masks b small = and_block 8 w masks b 240 small (omega arith) ∙ ap (λ n. bit_and w masks * 256 + n) (and_high b 4 4)

below_ten : (d : ℕ) (ds : List ℕ) → d < 10 → ((i : ℕ) → get_or ds i 0 < 10) → (i : ℕ) → get_or (d ∷ ds) i 0 < 10
below_ten d ds first others zero = first
below_ten d ds first others (suc i) = others i

-- a word whose upper halves are those of digits, and stay so with 6 more in each byte, is of digits
are_digits : (bs rest : List ℕ) → ((i : ℕ) → get_or (bs ++ rest) i 0 < 256) → bit_and (word_of bs) (in_each 240 bs) ≡ in_each 48 bs → bit_and (word_of bs - in_each 48 bs + in_each 6 bs) (in_each 240 bs) ≡ 0 → AreDigits bs
are_digits [] rest small first second = record { digits = refl; small = λ i. omega arith; more = omega arith; less_zeros = refl }
are_digits (b ∷ bs) rest small first second =
    let w = word_of bs in
    let masks = in_each 240 bs in
    let zeros = in_each 48 bs in
    let few : b < 256 = small 0 in
    let halves : bit_and w masks * 256 + b / 16 % 16 * 16 ≡ zeros * 256 + 48 = sym (upper_halves w masks b few) ∙ first in
    let above : 48 ≤ b = omega arith in
    let below : b < 64 = omega arith in
    let same : bit_and w masks ≡ zeros = omega arith in
    let enough : zeros ≤ w = omega (arith, and_le_l w masks) in
    let sixes : w * 256 + b - (zeros * 256 + 48) + (in_each 6 bs * 256 + 6) ≡ (w - zeros + in_each 6 bs) * 256 + (b - 42) = omega arith in
    let none : bit_and (w - zeros + in_each 6 bs) masks * 256 + (b - 42) / 16 % 16 * 16 ≡ 0 = sym (upper_halves (w - zeros + in_each 6 bs) masks (b - 42) (omega arith)) ∙ (rw sixes at second) in
    let last : b ≤ 57 = omega arith in
    let on = are_digits bs rest (λ i. small (suc i)) same (omega arith) in
    let less = on.less_zeros in
    record {
      digits = and_from _ _ (digit_in_range b above last) on.digits;
      small = below_ten (b - 48) (values bs) (omega arith) on.small;
      more = omega arith;
      less_zeros = omega arith;
    }

value_of : (n : ℕ) (bs : List ℕ) → number_from n (values bs) ≡ decimal_from n bs
value_of n [] = refl
value_of n (b ∷ bs) = value_of (n * 10 + (b - 48)) bs

-- eight bytes that pass the tests are digits, and write this number
pub eight_read : (text front : List ℕ) (word value : ℕ) → 8 ≤ length text → ((i : ℕ) → get_or text i 0 < 256) → front ≡ take 8 text →
    word ≡ get_or front 0 0 + get_or front 1 0 * 256 ^ 1 + get_or front 2 0 * 256 ^ 2 + get_or front 3 0 * 256 ^ 3 + get_or front 4 0 * 256 ^ 4 + get_or front 5 0 * 256 ^ 5 + get_or front 6 0 * 256 ^ 6 + get_or front 7 0 * 256 ^ 7 →
    bit_and word 0xf0f0_f0f0_f0f0_f0f0 ≡ 0x3030_3030_3030_3030 → bit_and (word - 0x3030_3030_3030_3030 + 0x0606_0606_0606_0606) 0xf0f0_f0f0_f0f0_f0f0 ≡ 0 →
    IsNumberOf (word - 0x3030_3030_3030_3030) value → DigitsSoFar text value 8
eight_read (a ∷ b ∷ c ∷ d ∷ e ∷ f ∷ g ∷ h ∷ rest) front word value long small is word_is first second says =
    let bs : List ℕ = a ∷ b ∷ c ∷ d ∷ e ∷ f ∷ g ∷ h ∷ [] in
    let sum = rw is at word_is in
    let whole : word ≡ word_of bs = omega arith in
    let r = are_digits bs rest small (rw whole at first) (rw whole at second) in
    let number = says (values bs) (record { eight = refl; small = r.small; word_is = ap (λ w. w - 0x3030_3030_3030_3030) whole ∙ r.less_zeros }) in
    record {
      inside = long;
      digits = r.digits;
      value_is = number ∙ value_of 0 bs;
      small = omega (arith, number, r.small 0, r.small 1, r.small 2, r.small 3, r.small 4, r.small 5, r.small 6, r.small 7);
    }
eight_read _ front word value long small is word_is first second says = absurd (omega arith)
