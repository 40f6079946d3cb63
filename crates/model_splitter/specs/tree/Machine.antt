-- the world of a tree as a machine, and properties of its nodes after its calls
use Rattle.std.specs.Prelude.{ℕ, ◌≤◌, List, []}
use Rattle.model_steps.specs.Machine.{Machine, OnEveryHistory}
use Rattle.model_steps.specs.Steps.{MemorySteps}
use Rattle.model_steps.specs.Calls.{begun_in}
use Rattle.model_splitter.specs.declared.tree.register.TreeRegister.{TreeRegister}
use Rattle.model_splitter.specs.declared.tree.register.TreeValue.{TreeValue}
use Rattle.model_splitter.specs.tree.CollectLaw.{CollectSpec}
use Rattle.model_splitter.specs.tree.Invariant.{IsTree}
use Rattle.model_splitter.specs.tree.PlacesLaw.{PlacesSpec, way_calls, walkers}
use Rattle.model_splitter.specs.tree.TreeDue.{TreeRefusesAsDue}
use Rattle.model_splitter.specs.tree.TreeMemory.{IsTreeMemory, IsEmptyTree}
use Rattle.model_splitter.specs.tree.TreeSteps.{NodeMap, tree_steps}
use Rattle.model_splitter.specs.tree.TreeWorld.{TreeState}
use Rattle.model_splitter.specs.tree.TreeCalls.{TreeCall, next, IsReply}

-- a memory that is a tree, of no nodes at first, and room for at most 64 participants
pub record IsTreeStart {S : Type 0} (memory : MemorySteps S TreeRegister TreeValue) (first : S) (most : ℕ) : Type 0 where
  pub tree : IsTreeMemory memory
  pub empty : IsEmptyTree memory first
  pub few : most ≤ 64

-- the specification over calls and replies: that of the places, and that of the collects
pub record TreeCallsSpec (r : List TreeCall) : Type 0 where
  pub places : PlacesSpec r
  pub collects : CollectSpec r

module _ {S : Type 0} (memory : MemorySteps S TreeRegister TreeValue) where
  -- a world over this memory in which nobody has begun
  abbrev pub fresh_over : S × ℕ → TreeState S
  fresh_over first = record { memory = first.0; most = first.1; participants = [] }

  -- the world of a tree over this memory, and what it keeps
  abbrev pub tree_over : Machine (S × ℕ) (TreeState S) TreeCall
  tree_over = record {
    MayStart = λ first. IsTreeStart memory first.0 first.1;
    first = fresh_over;
    next = next memory;
    IsReply = IsReply memory;
    Spec = λ first. TreeCallsSpec;
    RefusesAsDue = λ first. TreeRefusesAsDue first.1;
  }

-- the nodes, the most participants, and the participants
abbrev pub TreeWorldState : Type 0
TreeWorldState = TreeState NodeMap

abbrev pub tree : Machine (NodeMap × ℕ) TreeWorldState TreeCall
tree = tree_over tree_steps

-- after every list of calls nodes and walks satisfy the invariant of the tree
abbrev pub HasLawfulNodes : TreeWorldState → Type 0
HasLawfulNodes w = OnEveryHistory tree (λ first r. IsTree tree_steps (begun_in (way_calls r)) w.memory (walkers w.participants)) w
