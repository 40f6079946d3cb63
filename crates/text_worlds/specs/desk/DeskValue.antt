-- what a contract sees of a desk of either world
use Rattle.model_renaming.specs.over.GridState.{GridState}
use Rattle.model_renaming.specs.over.Tree.{TreeState}
use Rattle.model_renaming.specs.declared.over.grid_walk.GridWalk.{GridWalk}
use Rattle.model_renaming.specs.declared.over.grid_walker.GridWalker.{GridWalker}
use Rattle.model_renaming.specs.declared.over.tree_walk.TreeWalk.{TreeWalk}
use Rattle.model_renaming.specs.declared.over.tree_walker.TreeWalker.{TreeWalker}
use Rattle.text_worlds.specs.desk.DeskState.{DeskState}

-- over a grid, or over a tree
pub data DeskValue : Type 0 where
  OverGrid : DeskState GridState GridWalker GridWalk → DeskValue
  OverTree : DeskState TreeState TreeWalker TreeWalk → DeskValue
