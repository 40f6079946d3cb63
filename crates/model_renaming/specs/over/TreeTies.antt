-- what ties a tree to ways and walks
use Rattle.std.specs.Prelude.{◌≡◌, ℕ, ◌+◌, ◌-◌, ◌*◌, ◌≤◌, option_map, Option}
use Rattle.model_splitter.specs.declared.tree.register.TreeRegister.{TreeRegister}
use Rattle.model_splitter.specs.declared.tree.register.TreeValue.{TreeValue}
use Rattle.model_splitter.specs.declared.tree.walker.Walker.{Walker}
use Rattle.model_splitter.specs.tree.TreeSteps.{tree_steps, empty_tree}
use Rattle.model_splitter.specs.tree.Invariant.{IsConsistent, accesses_of}
use Rattle.model_splitter.specs.tree.Ahead.{marked_in, IsUpcoming, IsAhead, HasRead}
use Rattle.model_renaming.specs.declared.over.tree_walker.TreeWalker.{TreeWalker}
use Rattle.model_renaming.specs.declared.over.tree_walk.TreeWalk.{TreeWalk}
use Rattle.model_renaming.specs.over.Tree.{TreeState, tree_places_steps, tree_walker_steps, tree_place, tree_walks, tree_most, tree_walker, tree_walk}
use Rattle.model_snapshot.specs.Places.{PlaceTies, KnownPlaces, places_by}

-- a tree of no node, for at most 64
pub record IsNewTree (t : TreeState) : Type 0 where
  pub few : t.most ≤ 64
  pub empty : t.nodes ≡ empty_tree

-- the walks down the tree
abbrev pub walks_of : (ℕ → Option TreeWalker) → ℕ → Option Walker
walks_of ways p = option_map (λ u. u.walker) (ways p)

-- the marks tell a walk where to go, and are never taken back
abbrev pub tree_ties : PlaceTies TreeState TreeWalker TreeWalk
tree_ties = record {
  IsNew = IsNewTree;
  IsConsistent = λ t b ways. IsConsistent tree_steps t.most b t.nodes (walks_of ways);
  placing = λ b. 5 * b;
  reads = λ most b. 3 * (2 * b - 1) + 1;
  accesses_of = λ u. accesses_of u.walker;
  IsUpcoming = λ k x. IsUpcoming k.walk x;
  IsAhead = λ t k x. IsAhead (marked_in tree_steps t.nodes) k.walk x;
  HasRead = λ t k j. (nodes : ℕ) × HasRead (marked_in tree_steps t.nodes) k.walk nodes j;
}

-- a tree with segments, as places
abbrev pub tree_places : KnownPlaces TreeState TreeRegister TreeValue TreeWalker TreeWalk
tree_places = places_by tree_walker_steps tree_place tree_walks tree_places_steps tree_most tree_walker tree_walk tree_ties
