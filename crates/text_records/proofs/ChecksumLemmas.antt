-- a byte of a checksum at once, by a table
use Rattle.std.proofs.Common.{◌≡◌, ℕ, zero, suc, ◌+◌, ◌-◌, ◌*◌, ◌/◌, ◌%◌, ◌^◌, ◌<◌, ◌==◌, ◌&&◌, if◌then◌else◌, true, false, Bool, bit_xor, get_or, refl, sym, ap, ◌∙◌, arith, inl, inr, eq-zero-or-pos, T, eqb, eqb→eq}
use lib.Ieee.Fits.{and_l, and_r}
use Rattle.text_records.specs.declared.seals.TheConstants.{TABLE}
use Rattle.std.specs.Int.Bits.{xor_assoc, xor_zero_r}
use Rattle.std.proofs.lemmas.Nat.{xor_block, xor_mod, xor_shr}
use Rattle.text_records.specs.Seals.{crc_bit, crc_bits}

-- what stands above the lowest bit goes down by one place
above : (t r : ℕ) → crc_bit (bit_xor (t * 2) r) ≡ bit_xor t (crc_bit r)
above t r = (λ i. if low i == 1 then bit_xor (half i) 0x82F63B78 else half i) ∙ by (r % 2 == 1)
  where
    none : t * 2 % 2 ≡ 0
    none = omega arith

    all : t * 2 / 2 ≡ t
    all = omega arith

    low : bit_xor (t * 2) r % 2 ≡ r % 2
    low = xor_mod (t * 2) r 1 ∙ ap (λ (a : ℕ). bit_xor a (r % 2)) none

    half : bit_xor (t * 2) r / 2 ≡ bit_xor t (r / 2)
    half = xor_shr (t * 2) r 1 ∙ ap (λ (a : ℕ). bit_xor a (r / 2)) all

    by : (odd : Bool) → (if odd then bit_xor (bit_xor t (r / 2)) 0x82F63B78 else bit_xor t (r / 2)) ≡ bit_xor t (if odd then bit_xor (r / 2) 0x82F63B78 else r / 2)
    by true = xor_assoc t (r / 2) 0x82F63B78
    by false = refl

-- a number that stands so many places up
up : ℕ → ℕ → ℕ
up zero t = t
up (suc n) t = up n t * 2

all_above : (n t r : ℕ) → crc_bits n (bit_xor (up n t) r) ≡ bit_xor t (crc_bits n r)
unfolding up
all_above zero t r = refl
all_above (suc n) t r = ap (λ (a : ℕ). crc_bits n a) (above (up n t) r) ∙ all_above n t (crc_bit r)

up_byte : (t : ℕ) → up 8 t ≡ t * 256
unfolding up
up_byte t = omega arith

parts : (r : ℕ) → bit_xor (r / 256 * 256) (r % 256) ≡ r
parts r =
    let h = r / 256 in
    let l = r % 256 in
    let left : h * 256 ≡ h * 2 ^ 8 + 0 = omega arith in
    let right : l ≡ 0 * 2 ^ 8 + l = omega arith in
    let below : l < 2 ^ 8 = omega arith in
    let whole : h * 2 ^ 8 + l ≡ r = omega arith in
    ap (λ (a : ℕ). bit_xor a l) left ∙ ap (λ (a : ℕ). bit_xor (h * 2 ^ 8 + 0) a) right ∙ xor_block 8 h 0 0 l (omega arith) below
    ∙ ap (λ (a : ℕ). a * 2 ^ 8 + l) (xor_zero_r h) ∙ whole

-- the low byte takes the byte, and the others go down
pub byte_by_table : (r b : ℕ) → bit_xor (r / 256) (crc_bits 8 (bit_xor (r % 256) b)) ≡ crc_bits 8 (bit_xor r b)
byte_by_table r b =
    sym (all_above 8 (r / 256) (bit_xor (r % 256) b))
    ∙ ap (λ (a : ℕ). crc_bits 8 (bit_xor a (bit_xor (r % 256) b))) (up_byte (r / 256))
    ∙ ap (λ (a : ℕ). crc_bits 8 a) (sym (xor_assoc (r / 256 * 256) (r % 256) b) ∙ ap (λ (a : ℕ). bit_xor a b) (parts r))

are_entries : ℕ → Bool
are_entries zero = true
are_entries (suc i) = eqb (get_or TABLE i 0) (crc_bits 8 i) && are_entries i

entry_below : (n i : ℕ) → T (are_entries n) → i < n → get_or TABLE i 0 ≡ crc_bits 8 i
unfolding are_entries
entry_below zero i t h = absurd (omega arith)
entry_below (suc n) i t h = elim (eq-zero-or-pos (n - i)) [
  | inl z ↦ let e : i ≡ n = omega arith in rw e (eqb→eq _ _ (and_l _ (are_entries n) t))
  | inr g ↦ entry_below n i (and_r _ (are_entries n) t) (omega arith)
]

-- the table has the register after eight bits, for each value of its low byte
pub TABLE_at : (i : ℕ) → i < 256 → get_or TABLE i 0 ≡ crc_bits 8 i
unfolding are_entries
TABLE_at i h = entry_below 256 i tt h
