-- what is written of a number is text
use Rattle.std.proofs.Common.{◌≡◌, ◌==◌, ◌+◌, ℕ, zero, suc, ◌/◌, ◌%◌, Bool, true, false, cond, nat_le, nat_lt, List, [], ◌∷◌, decimal, refl, arith}
use Rattle.service_journal.proofs.Common.{list_all, nat_tests}
use Rattle.std.specs.Fmt.{digits, digits_onto, digit_glyph}

-- a byte that is no control character
abbrev pub is_text : ℕ → Bool
is_text b = nat_le 32 b

glyph_text : (d : ℕ) → is_text (digit_glyph false d) ≡ true
glyph_text d = elim (nat_lt d 10) as (λ t. is_text (cond t (48 + d) (87 + d)) ≡ true) [ true ↦ grind (arith, nat_tests) | false ↦ grind (arith, nat_tests) ]

onto_text : (k n : ℕ) (acc : List ℕ) → list_all is_text acc ≡ true → list_all is_text (digits_onto k 10 false n acc) ≡ true
onto_text zero n acc h = h
onto_text (suc k) n acc h =
    let more : list_all is_text (digit_glyph false (n % 10) ∷ acc) ≡ true = rw (glyph_text (n % 10)) h in
    elim (n / 10 == 0) as (λ t. list_all is_text (cond t (digit_glyph false (n % 10) ∷ acc) (digits_onto k 10 false (n / 10) (digit_glyph false (n % 10) ∷ acc))) ≡ true) [
      | true ↦ more
      | false ↦ onto_text k (n / 10) (digit_glyph false (n % 10) ∷ acc) more
    ]

pub decimal_text : (n : ℕ) → list_all is_text (decimal n) ≡ true
unfolding digits
decimal_text n = onto_text 64 n [] refl
