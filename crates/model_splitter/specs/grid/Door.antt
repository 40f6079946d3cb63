-- where the doors of a triangular grid lie, and how they are numbered (this project's profile)
use Rattle.std.specs.Prelude.{◌≡◌, ◌≤◌, ◌<◌, ℕ, ◌+◌, ◌*◌, ◌/◌, min}
use Rattle.model_splitter.specs.declared.grid.door.Door.{Door}

abbrev pub door_at : ℕ → ℕ → Door
door_at depth column = record { depth = depth; column = column }

-- where every walk begins
abbrev pub corner : Door
corner = door_at 0 0

-- the number of a door: those of the diagonals before it, and its column
abbrev pub door_number : ℕ → ℕ → ℕ
door_number depth column = depth * (depth + 1) / 2 + column

abbrev pub number_of : Door → ℕ
number_of door = door_number door.depth door.column

-- one more, up to the largest of a byte
abbrev pub deeper : ℕ → ℕ
deeper n = min (n + 1) 255

-- right leads to the next row and the same column, down to the same row and the next column. The depth, which is the
-- row and the column together, is one more both ways
abbrev pub right_of : Door → Door
right_of door = door_at (deeper door.depth) door.column

abbrev pub down_of : Door → Door
down_of door = door_at (deeper door.depth) (deeper door.column)

-- this is the number of a door on one of the first b diagonals: row and column together are at most b - 1
pub record IsDoorWithin (b k : ℕ) : Type 0 where
  pub depth : ℕ
  pub column : ℕ
  pub inside : column ≤ depth
  pub within : depth < b
  pub is : k ≡ door_number depth column
