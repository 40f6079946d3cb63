-- when a hall is compacted (this project's profile)
use Rattle.std.specs.Prelude.{ℕ, ◌+◌, ◌-◌, ◌/◌, ltb, if◌then◌else◌, max}

-- the number of events at which the next compaction is due, after one that left this many. It is 900,000, or later when
-- half of the remaining room is used up. None is due if this half is fewer than 10,000 events
abbrev pub due_after : ℕ → ℕ
due_after left = let room = (1000000 - left) / 2 in if ltb room 10000 then 18446744073709551615 else max 900000 (left + room)

-- the number of events at which a compaction is due again, if the result of one could not be stored: another tenth of
-- the room
abbrev pub due_again : ℕ → ℕ
due_again length = length + ((1000000 - length) / 10 + 1)
