-- lines that take a number: `take ID`, and `take ID SECONDS`, which waits for one at most 9,999 seconds
use Rattle.std.specs.Prelude.{ℕ, nat_le, if◌then◌else◌, List, [], ◌∷◌, length, take, drop, Option, Some, None, codes}
use Rattle.text_lines.specs.Meaning.{number_in, same_bytes, words}
use Rattle.service_loop.specs.declared.take_line.TakeLine.{TakeLine}
use Rattle.service_loop.specs.declared.take_line.TheConstants.{MOST_DIGITS}

-- the seconds that a word names
abbrev pub seconds_in : List ℕ → Option ℕ
seconds_in word = if nat_le (length word) MOST_DIGITS then number_in word else None

-- those that the words behind an identity name
abbrev pub seconds_of : List (List ℕ) → Option ℕ
seconds_of [] = Some 0
seconds_of (word ∷ []) = seconds_in word
seconds_of (word ∷ other ∷ more) = None

abbrev pub line_if_both : Option ℕ → Option ℕ → Option TakeLine
line_if_both None seconds = None
line_if_both (Some id) None = None
line_if_both (Some id) (Some s) = Some (record { identity = id; seconds = s })

-- what words say behind `take`
abbrev pub line_of_words : List (List ℕ) → Option TakeLine
line_of_words [] = None
line_of_words (word ∷ others) = line_if_both (number_in word) (seconds_of others)

-- what a line says that takes a number
abbrev pub take_line : List ℕ → Option TakeLine
take_line line = if same_bytes (take 5 line) (codes "take ") then line_of_words (words (drop 5 line)) else None

abbrev pub identity_in : Option TakeLine → Option ℕ
identity_in None = None
identity_in (Some line) = Some line.identity
