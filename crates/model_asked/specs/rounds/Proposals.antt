-- which number an identity proposes next, by the pairs (identity, proposal) of a view
use Rattle.std.specs.Prelude.{ℕ, zero, suc, ◌+◌, Bool, not, ◌&&◌, ◌==◌, nat_le, if◌then◌else◌, List, length}
use Rattle.std.specs.List.{list_any, count_by}

-- another identity proposes this number
abbrev pub is_taken : ℕ → List (ℕ × ℕ) → ℕ → Bool
is_taken id view n = list_any (λ pair. not (pair.0 == id) && (pair.1 == n)) view

-- the rank of an identity: how many are not above it
abbrev pub rank : ℕ → List (ℕ × ℕ) → ℕ
rank id view = count_by (λ pair. nat_le pair.0 id) view

-- how many of the numbers from 1 to this one pass a test not
abbrev pub free_up_to : (ℕ → Bool) → ℕ → ℕ
free_up_to taken zero = 0
free_up_to taken (suc n) = (if taken (suc n) then 0 else 1) + free_up_to taken n

-- the least number, of those up to this one, up to which so many are free
abbrev pub least_with : (ℕ → Bool) → ℕ → ℕ → ℕ
least_with taken r zero = 0
least_with taken r (suc n) = if nat_le r (free_up_to taken n) then least_with taken r n else suc n

-- the r-th positive number that no other identity proposes
abbrev pub nth_free : ℕ → List (ℕ × ℕ) → ℕ → ℕ
nth_free id view r = least_with (is_taken id view) r (r + length view)

abbrev pub next_proposal : ℕ → List (ℕ × ℕ) → ℕ
next_proposal id view = nth_free id view (rank id view)
