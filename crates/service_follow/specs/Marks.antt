-- the first lines of the entries of a compaction
use Rattle.std.specs.Prelude.{ℕ, zero, suc, ◌+◌, ◌-◌, ◌*◌, ◌%◌, ◌^◌, nat_eq, nat_le, ltb, if◌then◌else◌, Bool, List, [], ◌∷◌, length, take, drop, replicate, Option, Some, None, slice_get}
use Rattle.std.specs.Cmp.Lexicographic.{pointwise}
use Rattle.service_follow.specs.Entries.{is_there}
use Rattle.service_follow.specs.declared.gathering.Gathering.{Gathering}
use Rattle.service_follow.specs.declared.front_end_stay.FrontEndStay.{FrontEndStay}
use Rattle.service_follow.specs.declared.marks.Mark.{Mark}
use Rattle.service_follow.specs.declared.marks.Mark.TheVariants.{Ordinary, Begins, GoesOn, Ends}

-- Which entry it is, by the two bytes behind its token and its count. Behind those of an ordinary entry its first line ends
abbrev pub kind_by : Option ℕ → Mark
kind_by kind = if is_there kind 99 then Begins else if is_there kind 109 then GoesOn else if is_there kind 101 then Ends else Ordinary

abbrev pub mark_of : List ℕ → Mark
mark_of entry = if is_there (slice_get entry 49) 32 then kind_by (slice_get entry 50) else Ordinary

-- 49 bytes from a place of an entry on: a token, a space and a count. Zeros where it is shorter
abbrev pub head_at : ℕ → List ℕ → List ℕ
head_at at entry = if nat_le (at + 49) (length entry) then take 49 (drop at entry) else replicate 49 0

abbrev pub is_head : List ℕ → List ℕ → Bool
is_head head other = pointwise nat_eq head other

-- a part that was read, where the entry names its last entry as the one behind which it stands
abbrev pub next_in : Option Gathering → List ℕ → Option Gathering
next_in None entry = None
next_in (Some g) entry = if is_head g.head (head_at 62 entry) then Some g else None

-- the number that digits to the base of 16 say, the lowest first, in 64 bits
abbrev pub digit_value : ℕ → ℕ
digit_value b = (if ltb b 58 then b - 48 else b - 87) % 16

abbrev pub number_of : List ℕ → ℕ
number_of [] = 0
number_of (d ∷ ds) = (digit_value d + (16 * number_of ds) % 2 ^ 64) % 2 ^ 64

-- a stay in 64 bytes: an identity and the last entry of its front end, each in 16 digits, and the token of that
abbrev pub stay_in : List ℕ → FrontEndStay
stay_in bytes = record { identity = number_of (take 16 bytes); token = take 32 (drop 32 bytes); last = number_of (take 16 (drop 16 bytes)) }

abbrev pub stays_in : ℕ → List ℕ → List FrontEndStay
stays_in zero bytes = []
stays_in (suc n) bytes = stay_in (take 64 bytes) ∷ stays_in n (drop 64 bytes)

-- what the entry that ends a compaction says of the stays, and of how many entries were applied
abbrev pub kept_in : List ℕ → List FrontEndStay
kept_in entry = stays_in (number_of (take 16 (drop 129 entry))) (drop 146 entry)

abbrev pub entries_in : List ℕ → ℕ
entries_in entry = number_of (take 16 (drop 112 entry))
