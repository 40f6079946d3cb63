-- the words of a line that are still to be read
use Rattle.std.specs.Prelude.{ℕ, List, [], ◌∷◌, Option, Some, None, Result, Ok, Err}
use Rattle.model_asked.specs.declared.bad.Bad.{Bad}
use Rattle.model_asked.specs.declared.bad.Bad.TheVariants.{WrongCount, BadNumber}
use Rattle.text_lines.specs.Lines.{pieces_left}
use Rattle.text_lines.specs.Meaning.{number_in}

-- those of the bytes that follow the space after the last word read, none where no space follows it
abbrev pub words_left : Option (List ℕ) → List (List ℕ)
words_left left = pieces_left 32 left

-- that no word is left
abbrev pub no_word : List (List ℕ) → Result (Unit {0}) Bad
no_word [] = Ok tt
no_word (word ∷ more) = Err WrongCount

abbrev pub number_if : Option ℕ → Result ℕ Bad
number_if None = Err BadNumber
number_if (Some n) = Ok n

-- that one word is left, and its number
abbrev pub one_number : List (List ℕ) → Result ℕ Bad
one_number [] = Err WrongCount
one_number (word ∷ []) = number_if (number_in word)
one_number (word ∷ other ∷ more) = Err WrongCount

abbrev pub numbers_if : Option ℕ → Option ℕ → Result (ℕ × ℕ) Bad
numbers_if None other = Err BadNumber
numbers_if (Some one) None = Err BadNumber
numbers_if (Some one) (Some other) = Ok (one, other)

-- that two words are left, and their numbers
abbrev pub two_numbers : List (List ℕ) → Result (ℕ × ℕ) Bad
two_numbers [] = Err WrongCount
two_numbers (word ∷ []) = Err WrongCount
two_numbers (word ∷ other ∷ []) = numbers_if (number_in word) (number_in other)
two_numbers (word ∷ other ∷ third ∷ more) = Err WrongCount
