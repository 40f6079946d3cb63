-- the first command of some bytes
use Rattle.std.specs.Prelude.{◌≡◌, ℕ, ◌+◌, ◌*◌, ◌<◌, ◌≤◌, ◌==◌, ◌&&◌, ◌||◌, nat_le, Bool, true, List, length, take, slice_index, Some, Ok}
use Rattle.std.specs.List.{list_all}
use Rattle.model_asked.specs.Config.{gives_names}
use Rattle.model_asked.specs.declared.command.Command.{Command}
use Rattle.model_asked.specs.declared.kind.WorldKind.{WorldKind}
use Rattle.text_lines.specs.Meaning.{meaning, is_digit, number_in}

-- what words of letters, and numbers, are written with
abbrev pub is_of_words : ℕ → Bool
is_of_words b = (b == 32) || (is_digit b || (nat_le 97 b && nat_le b 122))

-- the first four bytes as a number, of which the first is the lowest
abbrev pub word_of_four : List ℕ → ℕ
word_of_four bytes = slice_index bytes 0 + 256 * (slice_index bytes 1 + 256 * (slice_index bytes 2 + 256 * slice_index bytes 3))

-- this byte stands there, and those before it, all of them letters, digits and spaces, mean this command
pub record IsCommandBefore (by : ℕ) (world : WorldKind) (bytes : List ℕ) (command : Command) (end : ℕ) : Type 0 where
  pub inside : end < length bytes
  pub ends : slice_index bytes end ≡ by
  pub of_words : list_all is_of_words (take end bytes) ≡ true
  pub means : meaning world (take end bytes) ≡ Ok command

-- these bytes begin with so many digits and then this byte, and the digits write this number
pub record IsNumberBefore (end : ℕ) (text : List ℕ) (value count : ℕ) : Type 0 where
  pub few : count ≤ 20
  pub inside : count < length text
  pub ends : slice_index text count ≡ end
  pub digits : list_all is_digit (take count text) ≡ true
  pub number : number_in (take count text) ≡ Some value

-- they do so in each world that is a desk
abbrev pub IsDeskCommandBefore : ℕ → List ℕ → Command → ℕ → Type 0
IsDeskCommandBefore by bytes command end = (world : WorldKind) → gives_names world ≡ true → IsCommandBefore by world bytes command end
