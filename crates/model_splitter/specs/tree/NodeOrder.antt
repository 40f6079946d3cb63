-- the order in which a collect reads the nodes of a tree: each before its left subtree, and its left subtree before its
-- right one
use Rattle.std.specs.Prelude.{◌≡◌, ℕ, ◌+◌, ◌/◌, ◌%◌, ◌<◌, ◌⊎◌}
use Rattle.std.proofs.Common.{zero, suc}

-- the node so many levels above
abbrev pub above : ℕ → ℕ → ℕ
above zero q = q
above (suc n) q = above n q / 2

-- q is node p, or lies below it
pub record IsUnder (p q : ℕ) : Type 0 where
  pub levels : ℕ
  pub is : above levels q ≡ p

-- q lies under the right sibling of a left child that is p, or lies above it
pub record IsRightOf (p q : ℕ) : Type 0 where
  pub node : ℕ
  pub above_it : IsUnder node p
  pub child : 1 < node
  pub left : node % 2 ≡ 0
  pub under : IsUnder (node + 1) q

-- q comes at node p, or later
abbrev pub IsFrom : ℕ → ℕ → Type 0
IsFrom p q = IsUnder p q ⊎ IsRightOf p q
