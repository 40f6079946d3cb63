-- the numbers of bad lines
use Rattle.std.specs.Prelude.{ℕ}
use Rattle.model_asked.specs.declared.bad.Bad.{Bad}
use Rattle.model_asked.specs.declared.bad.Bad.TheVariants.{TooLong, NotPrintable, UnknownWord, WrongCount, BadNumber}

-- the number that is written after `bad` (this project's profile)
abbrev pub bad_number : Bad → ℕ
bad_number TooLong = 1
bad_number NotPrintable = 2
bad_number UnknownWord = 3
bad_number WrongCount = 4
bad_number BadNumber = 5
