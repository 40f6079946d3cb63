-- how many numbers pass a test
use Rattle.std.specs.Prelude.{ℕ, ◌+◌, Bool, if◌then◌else◌}
use Rattle.std.proofs.Common.{zero, suc}

-- how many of the first n numbers pass
abbrev pub count_to : (ℕ → Bool) → ℕ → ℕ
count_to f zero = 0
count_to f (suc n) = count_to f n + (if f n then 1 else 0)
