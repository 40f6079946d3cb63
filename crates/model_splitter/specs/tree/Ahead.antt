-- the nodes that a walk over a tree has still to read, and those that it has read. No mark is ever cleared
use Rattle.std.specs.Prelude.{◌≡◌, ℕ, ◌+◌, ◌*◌, ◌/◌, ◌%◌, ◌<◌, ◌≤◌, Bool, true, false, ◌&&◌, ◌==◌, nat_lt, if◌then◌else◌}
use Rattle.std.proofs.Common.{zero, suc}
use Rattle.model_steps.specs.Steps.{MemorySteps}
use Rattle.model_splitter.specs.declared.tree.register.TreeRegister.{TreeRegister}
use Rattle.model_splitter.specs.declared.tree.register.TreeValue.{TreeValue}
use Rattle.model_splitter.specs.declared.tree.collect_walk.CollectWalk.{CollectWalk}
use Rattle.model_splitter.specs.tree.CollectWalk.{numbers, register_read, is_mark}
use Rattle.model_splitter.specs.tree.TreeMemory.{mark_at}
use Rattle.model_splitter.specs.tree.NodeOrder.{IsUnder, IsFrom}
use Rattle.model_steps.specs.Count.{count_to}

module _ {S : Type 0} (memory : MemorySteps S TreeRegister TreeValue) where
  -- which nodes are marked
  abbrev pub marked_in : S → ℕ → Bool
  marked_in s k = mark_at memory s k == 1

  -- the value that the next read of a walk gives
  abbrev pub found_by : S → CollectWalk → TreeValue
  found_by s w = (memory.register s (register_read w)).0

-- the value that a walk reads in a mark shows whether the node is marked
abbrev pub Sees : (ℕ → Bool) → CollectWalk → TreeValue → Type 0
Sees marked w got = w.is_reading_contents ≡ false → is_mark got ≡ marked w.at

-- all that is marked stays marked
abbrev pub HasGrown : (ℕ → Bool) → (ℕ → Bool) → Type 0
HasGrown marked later = (k : ℕ) → marked k ≡ true → later k ≡ true

-- q is a node, and all nodes from the root down to it are marked
pub record IsPathMarked (marked : ℕ → Bool) (q : ℕ) : Type 0 where
  pub node : 1 ≤ q
  pub fits : q < numbers
  pub path : (p : ℕ) → 1 ≤ p → IsUnder p q → marked p ≡ true

-- the walk may still read the segment of node q
pub record IsUpcoming (w : CollectWalk) (q : ℕ) : Type 0 where
  pub goes_on : 1 ≤ w.at
  pub is : IsFrom w.at q

-- the walk will read the segment of node q
pub record IsAhead (marked : ℕ → Bool) (w : CollectWalk) (q : ℕ) : Type 0 where
  pub upcoming : IsUpcoming w q
  pub marks : IsPathMarked marked q

-- the number of the nodes from the root to p whose right sibling comes later
abbrev pub open_in : ℕ → ℕ → ℕ
open_in zero p = 0
open_in (suc n) p = (if (p % 2 == 0) && nat_lt 1 p then 1 else 0) + open_in n (p / 2)

abbrev pub open_at : ℕ → ℕ
open_at p = open_in p p

-- the walk has made this many reads, and has found this many nodes marked, all of which it has passed
pub record HasRead (marked : ℕ → Bool) (w : CollectWalk) (nodes reads : ℕ) : Type 0 where
  pub goes_on : 1 ≤ w.at
  pub found : ℕ → Bool
  -- all nodes found have numbers below this one
  pub above_all : ℕ
  pub counted : (n : ℕ) → above_all ≤ n → count_to found n ≡ nodes
  pub marks : (k : ℕ) → found k ≡ true → marked k ≡ true
  pub passed : (k : ℕ) → found k ≡ true → IsFrom w.at k → (w.is_reading_contents ≡ true) × (k ≡ w.at)
  -- how many marks it did not find
  pub missed : ℕ
  pub reads_are : reads + (if w.is_reading_contents then 1 else 0) ≡ 2 * nodes + missed
  pub children : missed + open_at w.at + (if w.is_reading_contents then 1 else 0) ≤ nodes
