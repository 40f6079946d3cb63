-- digits that are read one by one
use Rattle.std.specs.Prelude.{◌≡◌, ℕ, ◌+◌, ◌*◌, ◌^◌, ◌<◌, ◌≤◌, true, List, [], ◌∷◌, length, get_or, take}
use Rattle.std.specs.List.{list_all}
use Rattle.text_lines.specs.Meaning.{is_digit, decimal_from}

-- the first so many bytes are digits, and this is the number that they write
pub record DigitsSoFar (text : List ℕ) (value count : ℕ) : Type 0 where
  pub inside : count ≤ length text
  pub digits : list_all is_digit (take count text) ≡ true
  pub value_is : value ≡ decimal_from 0 (take count text)
  pub small : value < 10 ^ count

-- bytes as a word, the first the lowest
abbrev pub word_of : List ℕ → ℕ
word_of [] = 0
word_of (b ∷ bs) = word_of bs * 256 + b

-- the values of eight digits stand in the bytes of a word
pub record AreDigitsOf (word : ℕ) (digits : List ℕ) : Type 0 where
  pub eight : length digits ≡ 8
  pub small : (i : ℕ) → get_or digits i 0 < 10
  pub word_is : word ≡ word_of digits

-- the number that digits of these values write, after what was written before them
abbrev pub number_from : ℕ → List ℕ → ℕ
number_from n [] = n
number_from n (d ∷ ds) = number_from (n * 10 + d) ds

-- the number that eight digits write which stand in the bytes of a word
abbrev pub IsNumberOf : ℕ → ℕ → Type 0
IsNumberOf word value = (digits : List ℕ) → AreDigitsOf word digits → value ≡ number_from 0 digits
