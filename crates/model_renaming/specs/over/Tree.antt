-- a tree that gives places: its nodes, and the most participants
use Rattle.std.specs.Prelude.{ℕ, Bool, Option, refl}
use Rattle.std.specs.Coded.{Coded, code_by, coded×, coded_ℕ}
use Rattle.model_steps.specs.declared.access.Access.{Access}
use Rattle.model_steps.specs.Steps.{MemorySteps, ProgramSteps}
use Rattle.model_splitter.specs.declared.tree.register.TreeRegister.{TreeRegister}
use Rattle.model_splitter.specs.declared.tree.register.TreeRegister.TheVariants.{Contents}
use Rattle.model_splitter.specs.declared.tree.register.TreeValue.{TreeValue}
use Rattle.model_splitter.specs.declared.tree.register.TreeValue.TheVariants.{Contents as Held}
use Rattle.model_splitter.specs.tree.TreeSteps.{NodeMap, register_of, after_access, may_refuse, empty_tree}
use Rattle.model_splitter.specs.tree.TreeMemory.{segment_in}
use Rattle.model_splitter.specs.tree.Walk.{walk_of, next_access, walker_after, walker_note, place_of}
use Rattle.model_splitter.specs.tree.CollectWalk.{first_walk, register_read, place_read, walk_resumed, walk_is_over}
use Rattle.model_renaming.specs.declared.over.tree_walker.TreeWalker.{TreeWalker}
use Rattle.model_renaming.specs.declared.over.tree_walk.TreeWalk.{TreeWalk}
use Rattle.model_snapshot.specs.Walks.{WalkSteps}

-- the nodes that are there, and the most participants
pub record TreeState : Type 0 where
  pub nodes : NodeMap
  pub most : ℕ

-- how these are stored, where nodes are
abbrev pub tree_code : Coded NodeMap → Coded TreeState
tree_code doors = code_by (NodeMap × ℕ) (coded× doors coded_ℕ) (λ t. (t.nodes, t.most)) (λ x. record { nodes = x.0; most = x.1 }) (λ _. refl)

-- a tree of no node, for so many
abbrev pub new_tree : ℕ → TreeState
new_tree most = record { nodes = empty_tree; most = most }

abbrev pub with_nodes : TreeState → NodeMap → TreeState
with_nodes t nodes = record { nodes = nodes; most = t.most }

abbrev pub register_in : TreeState → TreeRegister → TreeValue × Bool
register_in t r = register_of t.nodes r

abbrev pub tree_after : TreeState → Access TreeRegister TreeValue → TreeState
tree_after t a = with_nodes t (after_access t.nodes a)

abbrev pub tree_refuses : TreeState → Access TreeRegister TreeValue → Bool
tree_refuses t a = may_refuse t.nodes a

-- its accesses are the tree's
abbrev pub tree_places_steps : MemorySteps TreeState TreeRegister TreeValue
tree_places_steps = record { register = register_in; after = tree_after; may_refuse = tree_refuses }

-- a way is the tree's walk
abbrev pub tree_walker_steps : ProgramSteps TreeWalker TreeRegister TreeValue ℕ
tree_walker_steps = record {
  next = λ u. next_access u.walker;
  resumed = λ u got. record { walker = walker_after u.walker got };
  note = λ u got. walker_note u.walker got;
}

abbrev pub tree_place : TreeWalker → Option ℕ
tree_place u = place_of u.walker

-- a walk over the segments is that of a collect, over the nodes that were made
abbrev pub tree_walks : WalkSteps TreeWalk TreeRegister TreeValue
tree_walks = record {
  next = λ k. register_read k.walk;
  place = λ k. place_read k.walk;
  resumed = λ k got. record { walk = walk_resumed k.walk got };
  is_over = λ k got. walk_is_over k.walk got;
  segment = Contents;
  stored = Held;
  content = segment_in;
}

abbrev pub tree_most : TreeState → ℕ
tree_most t = t.most

-- every way begins before the root, and so does every walk
abbrev pub tree_walker : ℕ → ℕ → TreeWalker
tree_walker begun id = record { walker = walk_of id }

abbrev pub tree_walk : TreeState → TreeWalk
tree_walk t = record { walk = first_walk }
