-- the desk of either world, by what it holds
use Rattle.model_renaming.specs.over.GridState.{GridState}
use Rattle.model_renaming.specs.over.Tree.{TreeState}
use Rattle.model_renaming.specs.declared.over.grid_walk.GridWalk.{GridWalk}
use Rattle.model_renaming.specs.declared.over.grid_walker.GridWalker.{GridWalker}
use Rattle.model_renaming.specs.declared.over.tree_walk.TreeWalk.{TreeWalk}
use Rattle.model_renaming.specs.declared.over.tree_walker.TreeWalker.{TreeWalker}
use Rattle.text_worlds.specs.desk.DeskState.{DeskState}
use Rattle.text_worlds.specs.declared.desk.desk.Parts.{Parts}
use Rattle.text_worlds.specs.declared.desk.desk.Parts.TheVariants.{Grid, Tree}
use Rattle.text_worlds.specs.desk.DeskValue.{DeskValue}
use Rattle.text_worlds.specs.desk.DeskValue.DeskValue.{OverGrid, OverTree}

abbrev pub value_of : Parts (DeskState GridState GridWalker GridWalk) (DeskState TreeState TreeWalker TreeWalk) → DeskValue
value_of (Grid w) = OverGrid w
value_of (Tree w) = OverTree w
