-- the walk of a collect over the nodes of a tree. The root is node 1, the children of node p are 2p and 2p + 1
use Rattle.std.specs.Prelude.{ℕ, ◌+◌, ◌*◌, ◌/◌, ◌%◌, ◌^◌, Bool, true, false, not, ◌&&◌, ◌==◌, nat_lt, nat_le, if◌then◌else◌, Option, Some, None, is_some}
use Rattle.std.proofs.Common.{zero, suc}
use Rattle.model_splitter.specs.declared.tree.register.TreeRegister.{TreeRegister}
use Rattle.model_splitter.specs.declared.tree.register.TreeRegister.TheVariants.{Mark, Contents}
use Rattle.model_splitter.specs.declared.tree.register.TreeValue.{TreeValue}
use Rattle.model_splitter.specs.tree.TreeMemory.{word_in}
use Rattle.model_splitter.specs.declared.tree.collect_walk.CollectWalk.{CollectWalk}

-- how many numbers a node may have
unfoldable pub numbers : ℕ
numbers = 2 ^ 128

abbrev pub walk_at : ℕ → Bool → CollectWalk
walk_at p contents = record { at = p; is_reading_contents = contents }

-- a walk before its first read
abbrev pub first_walk : CollectWalk
first_walk = walk_at 1 false

-- the register that is read next, and the place whose segment it is
abbrev pub register_read : CollectWalk → TreeRegister
register_read w = if w.is_reading_contents then Contents w.at else Mark w.at

abbrev pub place_read : CollectWalk → Option ℕ
place_read w = if w.is_reading_contents then Some w.at else None

-- whether this is the value of a mark of a node that was made
abbrev pub is_mark : TreeValue → Bool
is_mark value = word_in value == 1

-- the node reached from p by going from a right child to its parent, at most n times
abbrev pub climbed_in : ℕ → ℕ → ℕ
climbed_in zero p = p
climbed_in (suc n) p = if (p % 2 == 1) && nat_lt 1 p then climbed_in n (p / 2) else p

-- the first node that is no right child, from p upwards
abbrev pub climbed : ℕ → ℕ
climbed p = climbed_in p p

abbrev pub sibling_of : ℕ → Option ℕ
sibling_of p = if nat_le p 1 then None else Some (p + 1)

-- the node that follows node p and all below it
abbrev pub node_after : ℕ → Option ℕ
node_after p = sibling_of (climbed p)

-- what follows a read: the segment of a marked node, its left child after that, or what comes after the subtree
abbrev pub child_or : ℕ → Option ℕ → Option ℕ
child_or p other = if nat_lt (p * 2) numbers then Some (p * 2) else other

abbrev pub node_next : CollectWalk → Option ℕ
node_next w = if w.is_reading_contents then child_or w.at (node_after w.at) else node_after w.at

-- the walk goes on at this node. A walk that is over is at 0, which is no node
abbrev pub goes_to : Option ℕ → CollectWalk
goes_to None = walk_at 0 false
goes_to (Some p) = walk_at p false

abbrev pub finds_mark : CollectWalk → TreeValue → Bool
finds_mark w got = not w.is_reading_contents && is_mark got

-- the walk after a read, and whether it is over then
abbrev pub walk_resumed : CollectWalk → TreeValue → CollectWalk
walk_resumed w got = if finds_mark w got then walk_at w.at true else goes_to (node_next w)

abbrev pub walk_is_over : CollectWalk → TreeValue → Bool
walk_is_over w got = if finds_mark w got then false else not (is_some (node_next w))
