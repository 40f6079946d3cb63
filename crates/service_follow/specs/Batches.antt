-- the batches that a front end puts into a log
use Rattle.std.specs.Prelude.{codes, ℕ, zero, suc, ◌+◌, ◌/◌, ◌%◌, ◌^◌, ltb, if◌then◌else◌, Bool, true, false, List, [], ◌∷◌, ◌++◌}
use Rattle.service_hall.specs.declared.reads.Reads.{Reads}
use Rattle.service_hall.specs.declared.reads.Reads.TheVariants.{Logged, Plain}
use Rattle.service_hall.specs.declared.rules.Rules.{Rules}

-- a digit to the base of 16
abbrev pub hex_digit : ℕ → ℕ
hex_digit d = if ltb d 10 then 48 + d else 87 + d

-- so many digits of a count, the lowest first
abbrev pub hex_digits : ℕ → ℕ → List ℕ
hex_digits zero n = []
hex_digits (suc k) n = hex_digit (n % 16) ∷ hex_digits k (n / 16)

-- the first line of a batch, without its end: a token, a space and a count
abbrev pub head_of : List ℕ → ℕ → List ℕ
head_of token count = token ++ 32 ∷ hex_digits 16 count

-- a batch: its first line, and then these lines
abbrev pub batch_of : List ℕ → ℕ → List ℕ → List ℕ
batch_of token count lines = head_of token count ++ 10 ∷ lines

-- whether reads are plain, as a word
abbrev pub reads_word : Reads → List ℕ
reads_word Logged = codes " whole"
reads_word Plain = codes " plain"

-- a letter where something is admitted, and a hyphen where it is barred
abbrev pub admission : Bool → ℕ → ℕ
admission true letter = letter
admission false letter = 45

-- a letter where tokens are given
abbrev pub giving : Bool → List ℕ
giving true = 116 ∷ []
giving false = []

-- what stands behind the count of a batch: whether its reads are plain, and where something is barred or tokens are given whether `widen` is admitted,
-- and `begin` and `step`, and whether tokens are given
abbrev pub told_by : Reads → Bool → Bool → Bool → List ℕ
told_by Logged true true false = []
told_by Plain true true false = codes " plain"
told_by reads widening naming tokens = reads_word reads ++ 32 ∷ admission widening 119 ∷ admission naming 110 ∷ giving tokens

abbrev pub told_of : Rules → List ℕ
told_of rules = told_by rules.reads rules.widening rules.naming rules.tokens

-- a batch by rules
abbrev pub batch_by : Rules → List ℕ → ℕ → List ℕ → List ℕ
batch_by rules token count lines = head_of token count ++ (told_of rules ++ 10 ∷ lines)

-- the count of the next batch, in 64 bits
abbrev pub next_count : ℕ → ℕ
next_count n = (n + 1) % 2 ^ 64
