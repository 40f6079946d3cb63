-- the most steps of a snapshot object over a grid, and over a tree
use Rattle.std.specs.Prelude.{ℕ, ◌+◌, ◌-◌, ◌*◌}
use Rattle.model_snapshot.specs.Snapshot.{SnapBounds}
use Rattle.model_renaming.specs.over.Grid.{segments_for}

-- for m participants there are G segments: a place within 4b steps where b have begun, a scan of at most G(G + 1) reads,
-- and a collect of G
abbrev pub grid_bounds : ℕ → SnapBounds
grid_bounds m = record { most = m; placing = λ b. 4 * b; scanning = λ b. segments_for m * (segments_for m + 1); collecting = segments_for m }

-- a place within 5b steps, a scan of at most (b + 1)(6b - 2) reads, and a collect of at most 6m - 2
abbrev pub tree_bounds : ℕ → SnapBounds
tree_bounds m = record { most = m; placing = λ b. 5 * b; scanning = λ b. (b + 1) * (6 * b - 2); collecting = 3 * (2 * m - 1) + 1 }
