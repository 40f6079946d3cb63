-- a snapshot object over a tree: its nodes, and steps that make one
use Rattle.std.specs.Prelude.{◌≡◌, ◌≤◌, ℕ, true, List, length, Some}
use Rattle.model_steps.specs.Participant.{program_of}
use Rattle.model_splitter.specs.tree.Invariant.{IsTree}
use Rattle.model_splitter.specs.tree.TreeMemory.{mark_at}
use Rattle.model_splitter.specs.tree.TreeSteps.{tree_steps}
use Rattle.model_snapshot.specs.declared.client.Client.{Client}
use Rattle.model_snapshot.specs.declared.client.Pending.TheVariants.{Placing}
use Rattle.model_snapshot.specs.SnapWorld.{SnapState, ways_of, may_lack_memory}
use Rattle.model_steps.specs.Machine.{Reaches}
use Rattle.model_snapshot.specs.Machine.{snapshot}
use Rattle.model_snapshot.specs.SnapCalls.{SnapCall}
use Rattle.model_renaming.specs.declared.over.tree_walker.TreeWalker.{TreeWalker}
use Rattle.model_renaming.specs.declared.over.tree_walk.TreeWalk.{TreeWalk}
use Rattle.model_renaming.specs.over.Tree.{TreeState, new_tree}
use Rattle.model_renaming.specs.over.TreeTies.{walks_of, tree_places}

-- p is on its way to a place, and is about to mark a node that is not marked
pub record MakesNode (w : SnapState TreeState TreeWalker TreeWalk) (p : ℕ) : Type 0 where
  pub client : Client TreeWalker TreeWalk
  pub is : program_of p w.participants ≡ Some client
  pub placing : client.pending ≡ Placing
  pub marking : client.walker.walker.is_marking ≡ true
  pub unmarked : mark_at tree_steps w.memory.nodes client.walker.walker.place ≡ 0

-- some list of calls leads to this object from one over a tree of no node, for at most 64
abbrev pub IsFromNewTree : SnapState TreeState TreeWalker TreeWalk → Type 0
IsFromNewTree w = (w.most ≤ 64) × (r : List SnapCall) × Reaches (snapshot tree_places) (new_tree w.most) w r

-- the nodes and the walks keep the law of the tree
abbrev pub KeepsTree : SnapState TreeState TreeWalker TreeWalk → Type 0
KeepsTree w = IsTree tree_steps (length w.participants) w.memory.nodes (walks_of (ways_of w.participants))

-- of p's steps only one that makes a node may want memory
abbrev pub LacksAtNode : SnapState TreeState TreeWalker TreeWalk → ℕ → Type 0
LacksAtNode w p = may_lack_memory tree_places w p ≡ true → MakesNode w p
