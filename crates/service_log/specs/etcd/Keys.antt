-- The key of a place.
use Rattle.std.specs.Prelude.{codes, ℕ, zero, suc, ◌+◌, ◌-◌, ◌*◌, ◌/◌, ◌%◌, ◌==◌, ◌&&◌, if◌then◌else◌, List, [], ◌∷◌, ◌++◌, length, Option, Some, None}
use Rattle.std.specs.Char.{is_ascii_digit}
use Rattle.std.specs.List.{list_all}

-- the last so many decimal digits of a number
abbrev pub digits : ℕ → ℕ → List ℕ
digits zero n = []
digits (suc k) n = digits k (n / 10) ++ (48 + n % 10) ∷ []

-- a prefix, and the place in 16 digits: keys come in the order of their places
abbrev pub key_of : List ℕ → ℕ → List ℕ
key_of prefix place = prefix ++ digits 16 place

-- the key at which a place is noted for a start. No place has it, since the keys of places are longer
abbrev pub hint_key_of : List ℕ → List ℕ
hint_key_of prefix = prefix ++ codes "last"

-- the key that is changed where the answer to an append was lost. No place has it, since keys of places end in digits
abbrev pub fence_key_of : List ℕ → List ℕ
fence_key_of prefix = prefix ++ codes "fence"

-- what the keys begin with that say below which place entries were given up. No word of a command line has a zero byte, so that no other log has
-- keys among them
abbrev pub gone_of : List ℕ → List ℕ
gone_of prefix = prefix ++ codes "gone" ++ 0 ∷ []

-- the key that says that entries up to this place were given up, and the end of such keys
abbrev pub gone_key_of : List ℕ → ℕ → List ℕ
gone_key_of prefix place = gone_of prefix ++ digits 16 place

abbrev pub gone_end_of : List ℕ → List ℕ
gone_end_of prefix = prefix ++ codes "gone" ++ 1 ∷ []

-- the number that digits say
abbrev pub number_from : ℕ → List ℕ → ℕ
number_from n [] = n
number_from n (d ∷ ds) = number_from (n * 10 + (d - 48)) ds

-- the number that 16 digits say; none, of other bytes
abbrev pub place_said : List ℕ → Option ℕ
place_said bytes = if (length bytes == 16) && list_all is_ascii_digit bytes then Some (number_from 0 bytes) else None
