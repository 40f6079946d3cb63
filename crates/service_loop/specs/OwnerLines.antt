-- lines that name an identity with its secret, as they go to the service
use Rattle.std.specs.Prelude.{◌≡◌, ℕ, ◌+◌, ◌%◌, ◌==◌, nat_lt, nat_le, if◌then◌else◌, Bool, true, ◌&&◌, ◌||◌, List, [], ◌∷◌, ◌++◌, length, take, map, Option, Some, None, decimal}
use Rattle.std.specs.List.{list_all}
use Rattle.std.specs.Int.{w64, from_be_bytes}
use Rattle.sha2.specs.Sha256.{sha256}
use Rattle.text_lines.specs.Lines.{has_no_lf, with_ends}
use Rattle.text_lines.specs.Meaning.{is_digit, number_in, words}
use Rattle.service_loop.specs.OwnerState.{OwnerState}
use Rattle.service_loop.specs.declared.owner_line.TheConstants.{FIRST_OWNED, LEAST_SECRET, MOST_SECRET}
use Rattle.service_loop.specs.declared.owner_lines.TheConstants.{MOST_LINE}

-- letters, digits, `-` and `_`
abbrev pub is_of_secret : ℕ → Bool
is_of_secret b = (is_digit b || nat_le 65 b && nat_le b 90 || nat_le 97 b && nat_le b 122) || (b == 45 || b == 95)

abbrev pub is_secret : List ℕ → Bool
is_secret word = nat_le LEAST_SECRET (length word) && nat_le (length word) MOST_SECRET && list_all is_of_secret word

-- the identity that a secret gives: by SHA-256 of the identity, as it is written, and the secret
abbrev pub owned_identity : List ℕ → List ℕ → ℕ
owned_identity id secret = from_be_bytes w64 (take 8 (sha256 (id ++ 32 ∷ secret))) % FIRST_OWNED + FIRST_OWNED

-- words, each behind a space
abbrev pub behind : List (List ℕ) → List ℕ
behind [] = []
behind (word ∷ more) = 32 ∷ word ++ behind more

-- where a secret stands behind an identity, the identity that it gives stands in their place
abbrev pub with_secret : List ℕ → List ℕ → List ℕ → List (List ℕ) → List ℕ
with_secret line command id [] = line
with_secret line command id (secret ∷ more) =
    if is_secret secret then command ++ 32 ∷ decimal (owned_identity id secret) ++ behind more else line

-- an identity that only a secret gives is none that a line may name
abbrev pub with_number : List ℕ → List ℕ → List ℕ → List (List ℕ) → Option ℕ → List ℕ
with_number line command word others None = line
with_number line command word others (Some id) =
    if nat_le FIRST_OWNED id then command ++ 32 ∷ 45 ∷ behind others else with_secret line command word others

abbrev pub of_words : List ℕ → List (List ℕ) → List ℕ
of_words line [] = line
of_words line (command ∷ []) = line
of_words line (command ∷ word ∷ others) = with_number line command word others (number_in word)

-- a line as it goes to the service
abbrev pub owned_line : List ℕ → List ℕ
owned_line line = of_words line (words line)

-- a byte that comes: it goes on with the line that is begun, or ends it; the rest of a long line is passed over
abbrev pub with_byte : OwnerState → ℕ → OwnerState
with_byte s byte =
    if byte == 10 then record { begun = []; ready = s.ready ++ (owned_line s.begun ++ 10 ∷ []) }
    else if nat_lt (length s.begun) MOST_LINE then record s { begun = s.begun ++ byte ∷ [] }
    else s

abbrev pub with_bytes : OwnerState → List ℕ → OwnerState
with_bytes s [] = s
with_bytes s (b ∷ bs) = with_bytes (with_byte s b) bs

abbrev pub is_short : List ℕ → Bool
is_short line = nat_le (length line) MOST_LINE

-- whole lines, however their bytes are cut into reads, go to the service each as its own
abbrev pub GoAsOwned : Type 0
GoAsOwned = (ls : List (List ℕ)) (ready : List ℕ) → list_all has_no_lf ls ≡ true → list_all is_short ls ≡ true →
    with_bytes (record { begun = []; ready = ready }) (with_ends ls) ≡ record { begun = []; ready = ready ++ with_ends (map owned_line ls) }
