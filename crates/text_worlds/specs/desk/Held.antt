-- what a desk holds, for observers
use Rattle.std.specs.Prelude.{ℕ, ◌+◌, ◌*◌, nat_lt, if◌then◌else◌, Option, Some, None, option_and_then, option_map}
use Rattle.model_steps.specs.declared.record.Record.{Record}
use Rattle.model_snapshot.specs.SnapWorld.{place_in}
use Rattle.model_renaming.specs.over.Grid.{register_of}
use Rattle.model_renaming.specs.over.GridState.{GridState}
use Rattle.model_renaming.specs.over.GridTies.{grid_places}
use Rattle.model_renaming.specs.over.Tree.{TreeState, register_in}
use Rattle.model_renaming.specs.over.TreeTies.{tree_places}
use Rattle.model_renaming.specs.declared.over.grid_register.GridRegister.{GridRegister}
use Rattle.model_renaming.specs.declared.over.grid_register.GridRegister.TheVariants as grid
use Rattle.model_renaming.specs.declared.over.grid_register.GridValue.{GridValue}
use Rattle.model_renaming.specs.declared.over.grid_register.GridValue.TheVariants as in_grid
use Rattle.model_splitter.specs.declared.tree.register.TreeRegister.{TreeRegister}
use Rattle.model_splitter.specs.declared.tree.register.TreeRegister.TheVariants as tree
use Rattle.model_splitter.specs.declared.tree.register.TreeValue.{TreeValue}
use Rattle.model_splitter.specs.declared.tree.register.TreeValue.TheVariants as in_tree
use Rattle.model_renaming.specs.RenameWorld.{name_in}
use Rattle.model_pool.specs.slots.SlotsState.{SlotsState}
use Rattle.text_worlds.specs.desk.DeskValue.{DeskValue}
use Rattle.text_worlds.specs.desk.DeskValue.DeskValue.{OverGrid, OverTree}
use Rattle.text_worlds.specs.declared.desk.coming.Register.{Register}
use Rattle.text_worlds.specs.declared.desk.coming.Register.TheVariants.{X, Y, Mark, Segment}
use Rattle.text_worlds.specs.declared.desk.held.TheConstants.{MOST_DOORS}

-- the proposal in a segment, once one was written there
abbrev pub proposed_in : Option Record → Option ℕ
proposed_in segment = option_map (λ r. r.value) segment

-- X of a door has an even number among the registers of the doors, and Y the odd one after it
abbrev pub door_number : ℕ → ℕ → Option GridRegister
door_number place part = if nat_lt place MOST_DOORS then Some (grid.Door (2 * place + part)) else None

-- a grid has no marks
abbrev pub register_in_grid : Register → Option GridRegister
register_in_grid (X place) = door_number place 0
register_in_grid (Y place) = door_number place 1
register_in_grid (Mark place) = None
register_in_grid (Segment place) = Some (grid.Segment place)

abbrev pub register_in_tree : Register → TreeRegister
register_in_tree (X node) = tree.X node
register_in_tree (Y node) = tree.Y node
register_in_tree (Mark node) = tree.Mark node
register_in_tree (Segment node) = tree.Contents node

abbrev pub held_by_grid : GridValue → Option ℕ
held_by_grid (in_grid.Word word) = Some word
held_by_grid (in_grid.Contents segment) = proposed_in segment

abbrev pub held_by_tree : TreeValue → Option ℕ
held_by_tree (in_tree.Word word) = Some word
held_by_tree (in_tree.Contents segment) = proposed_in segment

-- what a register holds: a word, or the proposal in a segment
abbrev pub held_in_grid : GridState → Register → Option ℕ
held_in_grid g r = option_and_then (λ own. held_by_grid (register_of g own).0) (register_in_grid r)

abbrev pub held_in_tree : TreeState → Register → Option ℕ
held_in_tree t r = held_by_tree (register_in t (register_in_tree r)).0

abbrev pub held_in : DeskValue → Register → Option ℕ
held_in (OverGrid w) r = held_in_grid w.names.snap.memory r
held_in (OverTree w) r = held_in_tree w.names.snap.memory r

-- the place of an identity, once it has one
abbrev pub place_on : DeskValue → ℕ → Option ℕ
place_on (OverGrid w) p = place_in grid_places w.names.snap p
place_on (OverTree w) p = place_in tree_places w.names.snap p

-- its name, once it has one
abbrev pub name_on : DeskValue → ℕ → Option ℕ
name_on (OverGrid w) p = name_in w.names p
name_on (OverTree w) p = name_in w.names p

-- the slots over their pool
abbrev pub slots_of : DeskValue → SlotsState ℕ
slots_of (OverGrid w) = w.slots
slots_of (OverTree w) = w.slots
