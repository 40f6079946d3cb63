-- the ranges of a config's numbers (this project's profile)
use Rattle.std.specs.Prelude.{ℕ, ◌≤◌}
use Rattle.model_asked.specs.Config.{most_in, numbers_in}
use Rattle.model_asked.specs.declared.kind.WorldKind.{WorldKind}

-- the most participants are 1 to as many as the world takes, the size of the pool 1 to as many as the world may have, the round limit 1 to 1,000,000
abbrev pub IsConfigRange : WorldKind → ℕ → ℕ → ℕ → Type 0
IsConfigRange world m k limit = (1 ≤ m) × (m ≤ most_in world) × (1 ≤ k) × (k ≤ numbers_in world) × (1 ≤ limit) × (limit ≤ 1000000)
