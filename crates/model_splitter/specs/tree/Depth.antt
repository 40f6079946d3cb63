-- how deep the nodes of a tree lie: the root has number 1 and depth 0, the children of node k are 2k and 2k + 1
use Rattle.std.specs.Prelude.{ℕ, ◌/◌, ◌^◌, ◌≤◌, ◌<◌, nat_le, if◌then◌else◌}
use Rattle.std.proofs.Common.{zero, suc}

-- the depth of node k, or n if it is deeper
abbrev pub depth_in : ℕ → ℕ → ℕ
depth_in zero k = 0
depth_in (suc n) k = if nat_le k 1 then 0 else suc (depth_in n (k / 2))

-- the number of nodes above node k
abbrev pub depth_of : ℕ → ℕ
depth_of k = depth_in k k

-- this is the number of a node of a depth below b
pub record IsNodeWithin (b k : ℕ) : Type 0 where
  pub node : 1 ≤ k
  pub deep : depth_of k < b
  pub within : k < 2 ^ b
