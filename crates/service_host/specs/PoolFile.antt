-- the pools that a file lists, a line each (this project's profile)
use Rattle.std.specs.Prelude.{◌≡◌, ◌≢◌, ◌≤◌, ◌<◌, ◌==◌, if◌then◌else◌, ℕ, Bool, true, false, not, List, [], ◌∷◌, ◌++◌, length, get_or, filter, codes, Option, Some, None, All}
use Rattle.std.specs.Char.{is_ascii_whitespace}
use Rattle.std.specs.List.{slice_split}
use Rattle.std.specs.Borrow.{Bor}
use Rattle.text_lines.specs.Meaning.{number_in}
use Rattle.service_host.specs.declared.pool_file.PoolPlan.{PoolPlan}

-- a word that was begun, in front of others
abbrev pub ended : List ℕ → List (List ℕ) → List (List ℕ)
ended [] words = words
ended (b ∷ begun) words = (b ∷ begun) ∷ words

-- the words of a line, in order: white space parts them. The first is begun with these bytes
abbrev pub words_behind : List ℕ → List ℕ → List (List ℕ)
words_behind begun [] = ended begun []
words_behind begun (b ∷ line) = if is_ascii_whitespace b then ended begun (words_behind [] line) else words_behind (begun ++ b ∷ []) line

abbrev pub words_in : List ℕ → List (List ℕ)
words_in line = words_behind [] line

-- a line says nothing: it has no word, or is a remark
abbrev pub says_nothing : List (List ℕ) → Bool
says_nothing [] = true
says_nothing (word ∷ words) = get_or word 0 0 == 35

-- a word gives a grace time: `forever`, or its seconds, from 1 to a day
abbrev pub GivesGrace : List ℕ → Option ℕ → Type 0
GivesGrace word None = word ≡ codes "forever"
GivesGrace word (Some seconds) = (number_in word ≡ Some seconds) × (1 ≤ seconds) × (seconds ≤ 86400)

-- a word does, or no word is there and it is this one
abbrev pub GivesGraceElse : Option ℕ → Option (Bor (List ℕ)) → Option ℕ → Type 0
GivesGraceElse grace None found = found ≡ grace
GivesGraceElse grace (Some word) found = GivesGrace word.now found

-- a word says how many numbers a pool has
abbrev pub GivesSize : List ℕ → ℕ → Type 0
GivesSize word size = (number_in word ≡ Some size) × (1 ≤ size) × (size ≤ 65536)

-- these words list a pool: its name, its numbers, and then nothing or its grace time
abbrev pub ListsPool : Option ℕ → List (List ℕ) → PoolPlan → Type 0
ListsPool grace (name ∷ size ∷ []) pool = (pool.name.now ≡ name) × GivesSize size pool.size × (pool.grace ≡ grace)
ListsPool grace (name ∷ size ∷ last ∷ []) pool = (pool.name.now ≡ name) × GivesSize size pool.size × GivesGrace last pool.grace
ListsPool grace words pool = ⊥

-- each of these lines lists the pool of its place
abbrev pub ListInOrder : Option ℕ → List (List ℕ) → List PoolPlan → Type 0
ListInOrder grace [] [] = Unit {0}
ListInOrder grace (line ∷ lines) (pool ∷ pools) = ListsPool grace (words_in line) pool × ListInOrder grace lines pools
ListInOrder grace lines pools = ⊥

-- the lines that say something
abbrev pub saying : List (List ℕ) → List (List ℕ)
saying lines = filter (λ line. not (says_nothing (words_in line))) lines

-- no pool of these has this name
abbrev pub HasNone : List PoolPlan → List ℕ → Type 0
HasNone pools name = All (λ (pool : PoolPlan). pool.name.now ≢ name) pools

-- no two of these pools have one name
abbrev pub NoneTwice : List PoolPlan → Type 0
NoneTwice [] = Unit {0}
NoneTwice (pool ∷ pools) = HasNone pools pool.name.now × NoneTwice pools

-- these are the pools that the lines of a text list, in their order, none twice; there is one at least
pub record AreListed (grace : Option ℕ) (text : List ℕ) (pools : List PoolPlan) : Type 0 where
  pub each : ListInOrder grace (saying (slice_split (λ b. b == 10) text)) pools
  pub none_twice : NoneTwice pools
  pub some : 0 < length pools
