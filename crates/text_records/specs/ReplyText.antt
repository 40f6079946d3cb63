-- what reply a text tells (the command language: this project's profile). Numbers are not bounded by what could be answered,
-- only by their width: a place has 128 bits, any other number 64
use Rattle.std.specs.Prelude.{ℕ, ◌^◌, nat_lt, if◌then◌else◌, List, [], ◌∷◌, ◌++◌, Option, Some, None, option_map, option_and_then, codes}
use Rattle.text_lines.specs.Lines.{pieces_from}
use Rattle.text_lines.specs.Meaning.{words, number_below, number_in, same_bytes}
use Rattle.text_records.specs.declared.header.Version.{Version}
use Rattle.text_records.specs.declared.header.Version.TheVariants.{One, Two}
use Rattle.text_records.specs.declared.reported.Reported.{Reported}
use Rattle.text_records.specs.declared.reported.Reported.TheVariants.{Ok, Quiet, Stop, Right, Down, Place, Proposed, Saw, Named, Spent, Missed, Got, Left, Value, Owner, Refused}

abbrev pub pair_by : Option ℕ → Option ℕ → Option (ℕ × ℕ)
pair_by None number = None
pair_by (Some id) None = None
pair_by (Some id) (Some number) = Some (id, number)

abbrev pub pair_of : List (List ℕ) → Option (ℕ × ℕ)
pair_of [] = None
pair_of (id ∷ []) = None
pair_of (id ∷ number ∷ []) = pair_by (number_in id) (number_in number)
pair_of (id ∷ number ∷ other ∷ more) = None

-- the pair that a word writes: an identity and a number, with a colon between them
abbrev pub pair_in : List ℕ → Option (ℕ × ℕ)
pair_in word = pair_of (pieces_from 58 [] word)

-- that pair, where its identity is above this one
abbrev pub pair_after : ℕ → Option (ℕ × ℕ) → Option (ℕ × ℕ)
pair_after above None = None
pair_after above (Some pair) = if nat_lt above pair.0 then Some pair else None

-- the pairs that words write, by strictly rising identity, all above this one
abbrev pub pairs_after : ℕ → List (List ℕ) → Option (List (ℕ × ℕ))
pairs_after above [] = Some []
pairs_after above (word ∷ more) = option_and_then (λ pair. option_map (λ pairs. pair ∷ pairs) (pairs_after pair.0 more)) (pair_after above (pair_in word))

-- the pairs that a text writes
abbrev pub pairs_in : List ℕ → Option (List (ℕ × ℕ))
pairs_in text = pairs_after 0 (words text)

-- a view has one pair or more, and no identity is 0
abbrev pub saw_of : List (List ℕ) → Option Reported
saw_of [] = None
saw_of (word ∷ more) = option_map Saw (pairs_after 0 (word ∷ more))

-- the reply of one word
abbrev pub word_alone : List ℕ → Option Reported
word_alone word =
    if same_bytes word (codes "ok") then Some Ok
    else if same_bytes word (codes "quiet") then Some Quiet
    else if same_bytes word (codes "stop") then Some Stop
    else if same_bytes word (codes "right") then Some Right
    else if same_bytes word (codes "down") then Some Down
    else if same_bytes word (codes "spent") then Some Spent
    else if same_bytes word (codes "missed") then Some Missed
    else None

abbrev pub owner_of : List ℕ → Option Reported
owner_of other = if same_bytes other (codes "none") then Some (Owner None) else option_map (λ id. Owner (Some id)) (number_in other)

-- the reply of a word and another
abbrev pub word_with : List ℕ → List ℕ → Option Reported
word_with word other =
    if same_bytes word (codes "place") then option_map Place (number_below (2 ^ 128) other)
    else if same_bytes word (codes "proposed") then option_map Proposed (number_in other)
    else if same_bytes word (codes "named") then option_map (λ name. Named name None) (number_in other)
    else if same_bytes word (codes "got") then option_map Got (number_in other)
    else if same_bytes word (codes "left") then option_map Left (number_in other)
    else if same_bytes word (codes "value") then option_map Value (number_in other)
    else if same_bytes word (codes "refused") then option_map Refused (number_in other)
    else if same_bytes word (codes "owner") then owner_of other
    else None

abbrev pub plain_of : List ℕ → List (List ℕ) → Option Reported
plain_of word [] = word_alone word
plain_of word (other ∷ []) = word_with word other
plain_of word (other ∷ third ∷ more) = None

abbrev pub reported_of_words : List (List ℕ) → Option Reported
reported_of_words [] = None
reported_of_words (word ∷ others) = if same_bytes word (codes "saw") then saw_of others else plain_of word others

-- the reply that a text tells, without its LF
abbrev pub reported_in : List ℕ → Option Reported
reported_in text = reported_of_words (words text)

-- what is reported of a reply, with the view that is written beside it: in version 2 of each name, and of nothing else
abbrev pub reported_with : Version → Reported → Option (List ℕ) → Option Reported
reported_with One t None = Some t
reported_with One t (Some text) = None
reported_with Two (Named name shown) None = None
reported_with Two (Named name shown) (Some text) = option_map (λ view. Named name (Some view)) (pairs_in text)
reported_with Two t None = Some t
reported_with Two t (Some text) = None

-- what these texts tell of a reply
abbrev pub reported_by : Version → List ℕ → Option (List ℕ) → Option Reported
reported_by version text shown = option_and_then (λ t. reported_with version t shown) (reported_in text)

-- what was read so far, with what is read of the rest
abbrev pub after_pairs : List (ℕ × ℕ) → Option (List (ℕ × ℕ)) → Option (List (ℕ × ℕ))
after_pairs done rest = option_map (λ pairs. done ++ pairs) rest
