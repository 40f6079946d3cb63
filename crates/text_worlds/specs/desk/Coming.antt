-- the access that a participant of a desk makes next
use Rattle.std.specs.Prelude.{ℕ, ◌/◌, ◌%◌, ◌==◌, if◌then◌else◌, Option, Some, None, option_map}
use Rattle.model_steps.specs.declared.access.Access.{Access}
use Rattle.model_steps.specs.declared.access.Access.TheVariants as access
use Rattle.model_steps.specs.declared.record.Record.{Record}
use Rattle.model_steps.specs.Participant.{program_of}
use Rattle.model_snapshot.specs.Client.{next_access}
use Rattle.model_snapshot.specs.Places.{KnownPlaces}
use Rattle.model_renaming.specs.over.GridTies.{grid_places}
use Rattle.model_renaming.specs.over.TreeTies.{tree_places}
use Rattle.model_renaming.specs.declared.over.grid_register.GridRegister.{GridRegister}
use Rattle.model_renaming.specs.declared.over.grid_register.GridRegister.TheVariants as grid
use Rattle.model_renaming.specs.declared.over.grid_register.GridValue.{GridValue}
use Rattle.model_renaming.specs.declared.over.grid_register.GridValue.TheVariants as held
use Rattle.model_splitter.specs.declared.tree.register.TreeRegister.{TreeRegister}
use Rattle.model_splitter.specs.declared.tree.register.TreeRegister.TheVariants as tree
use Rattle.model_splitter.specs.declared.tree.register.TreeValue.{TreeValue}
use Rattle.model_splitter.specs.declared.tree.register.TreeValue.TheVariants as kept
use Rattle.text_worlds.specs.desk.DeskState.{DeskState}
use Rattle.text_worlds.specs.desk.DeskValue.{DeskValue}
use Rattle.text_worlds.specs.desk.DeskValue.DeskValue.{OverGrid, OverTree}
use Rattle.text_worlds.specs.declared.desk.coming.Coming.{Coming}
use Rattle.text_worlds.specs.declared.desk.coming.Coming.TheVariants.{Nothing, Read, Write}
use Rattle.text_worlds.specs.declared.desk.coming.Register.{Register}
use Rattle.text_worlds.specs.declared.desk.coming.Register.TheVariants.{X, Y, Mark, Segment}

-- X of a door has an even number among the registers of the doors, and Y the odd one after it
abbrev pub door_register : ℕ → Register
door_register r = if r % 2 == 0 then X (r / 2) else Y (r / 2)

-- the proposal in what is written into a segment
abbrev pub proposal_in : Option Record → ℕ
proposal_in None = 0
proposal_in (Some found) = found.value

-- the word of a door, or the proposal in a segment, is written; no other access is one of a grid
abbrev pub grid_write : GridRegister → GridValue → Coming
grid_write (grid.Door r) (held.Word word) = Write (door_register r) word
grid_write (grid.Segment place) (held.Contents segment) = Write (Segment place) (proposal_in segment)
grid_write r v = Nothing

abbrev pub grid_register : GridRegister → Register
grid_register (grid.Door r) = door_register r
grid_register (grid.Segment place) = Segment place

abbrev pub coming_in_grid : Access GridRegister GridValue → Coming
coming_in_grid (access.Read r) = Read (grid_register r)
coming_in_grid (access.Write r v) = grid_write r v
coming_in_grid a = Nothing

abbrev pub tree_register : TreeRegister → Register
tree_register (tree.Mark node) = Mark node
tree_register (tree.X node) = X node
tree_register (tree.Y node) = Y node
tree_register (tree.Contents node) = Segment node

abbrev pub tree_written : TreeValue → ℕ
tree_written (kept.Word word) = word
tree_written (kept.Contents segment) = proposal_in segment

abbrev pub coming_in_tree : Access TreeRegister TreeValue → Coming
coming_in_tree (access.Read r) = Read (tree_register r)
coming_in_tree (access.Write r v) = Write (tree_register r) (tree_written v)
coming_in_tree a = Nothing

-- the access that an identity makes next, which has begun
abbrev pub next_over : {S R V U K : Type 0} → KnownPlaces S R V U K → DeskState S U K → ℕ → Option (Access R V)
next_over t w p = option_map (λ c. next_access t.walker t.place_of t.walks c) (program_of p w.names.snap.participants)

-- the next access of an identity, as a desk of either world reports it
abbrev pub coming_of : DeskValue → ℕ → Option Coming
coming_of (OverGrid w) p = option_map coming_in_grid (next_over grid_places w p)
coming_of (OverTree w) p = option_map coming_in_tree (next_over tree_places w p)
