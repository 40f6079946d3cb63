-- the size that a first line tells
use Rattle.std.proofs.Common.{◌≡◌, ◌≢◌, ◌<◌, ◌≤◌, ◌+◌, ◌-◌, ◌/◌, ◌%◌, ◌^◌, ℕ, zero, suc, Bool, true, false, List, [], ◌∷◌, ◌++◌, Option, Some, None, codes, decimal, length, slice_get, slice_index_or, get_or, not, ◌==◌, nat_le, refl, ap, sym, ◌∙◌, append_assoc, length-append, arith}
use Rattle.std.specs.List.{list_all}
use Rattle.std.specs.Prelude.{Contains}
use Rattle.std.proofs.lemmas.Bool.{and_parts, and_from, leb-true, le-leb, lt-ltb, ne_eqb}
use Rattle.std.proofs.lemmas.Fmt.{decimal_digit, digits_decimal, digits_value-decimal, decimal_by_steps}
use Rattle.std.proofs.lemmas.Str.Parse.{IsDigitsTest, IsNumeralModel, numerals_by_fold}
use Rattle.model_asked.specs.Config.{world_name}
use Rattle.model_asked.specs.declared.config.Config.{Config}
use Rattle.model_asked.specs.declared.kind.WorldKind.{WorldKind}
use Rattle.model_asked.specs.declared.kind.WorldKind.TheVariants.{Splitter, Grid, Rename, Tree, Wide}
use Rattle.model_asked.specs.lemmas.ConfigProofs.{few_numbers, few_take_part}
use Rattle.text_lines.specs.Lines.{pieces_from}
use Rattle.text_lines.specs.Meaning.{is_digit, decimal_from, if_below, number_in, number_below, words}
use Rattle.text_lines.specs.lemmas.PieceProofs.{lacks, passes_too, pieces-cut}
use Rattle.service_follow.specs.Terms.{IsFirstLine, config_text, told_text, terms_of}
use Rattle.service_host.specs.Sizes.{IsAlikeButSize, IsOfNoneAlike, number_of, size_told}

-- decimal digits, as they are written and read
tells : IsDigitsTest (λ ds. list_all is_digit ds ≡ true)
tells = record {
  empty = refl;
  parts = λ c cs e. let both = and_parts (is_digit c) (list_all is_digit cs) e in let at = and_parts (nat_le 48 c) (nat_le c 57) both.0 in ((leb-true 48 c at.0, leb-true c 57 at.1), both.1);
  more = λ c cs k e. and_from (is_digit c) (list_all is_digit cs) (and_from (nat_le 48 c) (nat_le c 57) (le-leb 48 c k.0) (le-leb c 57 k.1)) e;
}

read : IsNumeralModel (λ ds. list_all is_digit ds ≡ true) (decimal_from 0)
read = numerals_by_fold _ tells decimal_from (record { empty = λ n. refl; more = λ n c cs k. refl })

-- a number above 0 begins with no zero
record Begins (n : ℕ) (ds : List ℕ) : Type 0 where
  some : 0 < length ds
  first : 0 < n → 48 < get_or ds 0 0

begins_more : (n : ℕ) (ds : List ℕ) → 10 ≤ n → Begins (n / 10) ds → Begins n (ds ++ (48 + n % 10) ∷ [])
begins_more n [] ten b = absurd (let l = b.some in omega arith)
begins_more n (d ∷ ds) ten b = let high : 0 < n / 10 = omega arith in let first = b.first high in record { some = omega arith; first = λ some. first }

begins : (n : ℕ) → n < 2 ^ 64 → Begins n (decimal n)
begins n fits = decimal_by_steps Begins (λ k few. record { some = omega arith; first = λ some. omega arith }) begins_more n fits

number_of_digits : (n : ℕ) (ds : List ℕ) → n < 2 ^ 64 → 0 < n → Begins n ds → list_all is_digit ds ≡ true → decimal_from 0 ds ≡ n → number_in ds ≡ Some n
number_of_digits n [] fits some b all is = absurd (let l = b.some in omega arith)
number_of_digits n (d ∷ ds) fits some b all is = let first : 48 < d = b.first some in rw (all, ne_eqb d 48 (λ e. omega (arith, e)), is, lt-ltb n (2 ^ 64) fits) refl

-- a number that is written is read
number_back : (n : ℕ) → n < 2 ^ 64 → number_in (decimal n) ≡ Some n
number_back zero fits = rw (decimal_digit 0 (omega arith)) refl
number_back (suc n) fits = number_of_digits (suc n) (decimal (suc n)) fits (omega arith) (begins (suc n) fits) (digits_decimal read (suc n) fits) (digits_value-decimal read (suc n) fits)

-- and no space is in it
no_space : (b : ℕ) → is_digit b ≡ true → not (b == 32) ≡ true
no_space b digit = let low = leb-true 48 b (and_parts (nat_le 48 b) (nat_le b 57) digit).0 in rw (ne_eqb b 32 (λ e. omega (arith, e, low))) refl

decimal_lacks : (n : ℕ) → n < 2 ^ 64 → lacks 32 (decimal n) ≡ true
decimal_lacks n fits = passes_too is_digit (λ b. not (b == 32)) no_space (decimal n) (digits_decimal read n fits)

-- the ninth word behind a first part that names a world
word_behind : (kind : WorldKind) (m k : ℕ) (rest : List ℕ) → m < 2 ^ 64 → k < 2 ^ 64 →
    slice_get (words (codes "beglushan hall 1 world " ++ (world_name kind ++ (codes " m " ++ (decimal m ++ (codes " k " ++ (decimal k ++ 32 ∷ rest))))))) 8 ≡ Some (decimal k)
word_behind kind m k rest small few = by_kind kind where
  tail : pieces_from 32 [] (decimal m ++ 32 ∷ 107 ∷ 32 ∷ (decimal k ++ 32 ∷ rest)) ≡ decimal m ∷ (107 ∷ []) ∷ decimal k ∷ pieces_from 32 [] rest
  tail = pieces-cut 32 [] (decimal m) (107 ∷ 32 ∷ (decimal k ++ 32 ∷ rest)) (decimal_lacks m small) ∙
      ap (λ (l : List (List ℕ)). decimal m ∷ (107 ∷ []) ∷ l) (pieces-cut 32 [] (decimal k) rest (decimal_lacks k few))

  there : slice_get (pieces_from 32 [] (decimal m ++ 32 ∷ 107 ∷ 32 ∷ (decimal k ++ 32 ∷ rest))) 2 ≡ Some (decimal k)
  there = ap (λ (l : List (List ℕ)). slice_get l 2) tail

  by_kind : (kind : WorldKind) →
      slice_get (words (codes "beglushan hall 1 world " ++ (world_name kind ++ (codes " m " ++ (decimal m ++ (codes " k " ++ (decimal k ++ 32 ∷ rest))))))) 8 ≡ Some (decimal k)
  by_kind Splitter = there
  by_kind Grid = there
  by_kind Rename = there
  by_kind Tree = there
  by_kind Wide = there

-- the first line of a log tells the size of its pool
pub size_back : (d : Config) (rest : List ℕ) → size_told (config_text d ++ rest) ≡ Some d.k
size_back d rest =
    let behind : List ℕ = codes "limit " ++ (decimal d.limit ++ rest) in
    let shape : config_text d ++ rest ≡
    codes "beglushan hall 1 world " ++ (world_name d.world ++ (codes " m " ++ (decimal d.m ++ (codes " k " ++ (decimal d.k ++ 32 ∷ behind))))) = simp append_assoc in
    let small : d.m < 2 ^ 64 = omega (arith, few_take_part d) in
    let few : d.k < 2 ^ 64 = omega (arith, few_numbers d) in
    ap size_told shape ∙ (ap number_of (word_behind d.world d.m d.k behind small few) ∙ number_back d.k few)

-- a line that tells no size is of no config
pub none_untold : (config : Config) (entry : List ℕ) → size_told entry ≡ None → IsOfNoneAlike config entry
none_untold config entry untold d alike first = let no : Some d.k ≡ None = sym (size_back d (told_text (terms_of entry) ++ 10 ∷ [])) ∙ (ap size_told (sym first) ∙ untold) in cc

-- of the configs in the first of these worlds, with the size that is told, an entry is the first line of none
abbrev pub IsOfNoneIn : Config → List ℕ → ℕ → List WorldKind → ℕ → Type 0
IsOfNoneIn config entry size worlds many =
    (d : Config) → IsAlikeButSize config d → (j : ℕ) → j < many → slice_index_or worlds j d.world ≡ d.world → d.k ≡ size → ¬ (IsFirstLine d entry)

-- where all worlds were tried it is of none
pub none_in_all : (config : Config) (entry : List ℕ) (size : ℕ) (worlds : List WorldKind) (many : ℕ) → size_told entry ≡ Some size → ((kind : WorldKind) → Contains worlds kind) →
    length worlds ≤ many → IsOfNoneIn config entry size worlds many → IsOfNoneAlike config entry
none_in_all config entry size worlds many told all whole none d alike first =
    let same : Some d.k ≡ Some size = sym (size_back d (told_text (terms_of entry) ++ 10 ∷ [])) ∙ (ap size_told (sym first) ∙ told) in
    let among = all d.world in
    let within = among.1 in
    none d alike among.0 (omega (arith, within, whole)) among.2 (let k : d.k ≡ size = cc in k) first
