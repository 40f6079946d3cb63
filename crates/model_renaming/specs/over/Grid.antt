-- a grid of doors, with a segment at each
use Rattle.std.specs.Prelude.{◌≡◌, ℕ, ◌+◌, ◌-◌, ◌*◌, ◌/◌, ◌≤◌, ◌++◌, nat_lt, nat_le, if◌then◌else◌, Bool, false, replicate, map, List, length, Option, Some, None, slice_index_or, slice_set}
use Rattle.model_steps.specs.declared.access.Access.{Access}
use Rattle.model_steps.specs.declared.access.Access.TheVariants.{Read, Write, TestAndSet, Clear, Nothing}
use Rattle.model_steps.specs.declared.access.Answer.{Answer}
use Rattle.model_steps.specs.declared.access.Answer.TheVariants.{Value, WasSet, Done}
use Rattle.model_steps.specs.Steps.{MemorySteps, ProgramSteps}
use Rattle.model_steps.specs.Registers as registers
use Rattle.model_steps.specs.RegisterState.{Registers}
use Rattle.model_steps.specs.declared.record.Record.{Record}
use Rattle.model_splitter.specs.Visitor.{word_of}
use Rattle.model_splitter.specs.grid.Walk as walk
use Rattle.model_splitter.specs.grid.Machine.{empty_doors}
use Rattle.model_renaming.specs.declared.over.grid_register.GridRegister.{GridRegister}
use Rattle.model_renaming.specs.declared.over.grid_register.GridRegister.TheVariants.{Door, Segment}
use Rattle.model_renaming.specs.declared.over.grid_register.GridValue.{GridValue}
use Rattle.model_renaming.specs.declared.over.grid_register.GridValue.TheVariants.{Word, Contents}
use Rattle.model_renaming.specs.declared.over.grid_walker.GridWalker.{GridWalker}
use Rattle.model_renaming.specs.declared.over.grid_walk.GridWalk.{GridWalk}
use Rattle.model_renaming.specs.over.GridState.{GridState}
use Rattle.model_snapshot.specs.Walks.{WalkSteps}

-- as many segments as doors, all empty, and no one has entered a door
abbrev pub segments_for : ℕ → ℕ
segments_for most = most * (most + 1) / 2

abbrev pub fresh_grid : ℕ → GridState
fresh_grid most = record { doors = empty_doors most; segments = replicate (segments_for most) None; most = most }

-- the value that stands in a register; there is no bit
abbrev pub register_of : GridState → GridRegister → GridValue × Bool
register_of g (Door r) = (Word (word_of g.doors r), false)
register_of g (Segment place) = (Contents (slice_index_or g.segments place None), false)

-- the grid with these doors, and with these segments
abbrev pub with_doors : GridState → Registers ℕ → GridState
with_doors g doors = record { doors = doors; segments = g.segments; most = g.most }

abbrev pub with_segments : GridState → List (Option Record) → GridState
with_segments g segments = record { doors = g.doors; segments = segments; most = g.most }

-- a value of the other kind is lost
abbrev pub after_write : GridState → GridRegister → GridValue → GridState
after_write g (Door r) (Word word) = with_doors g (registers.after_access g.doors (Write r word))
after_write g (Door r) (Contents segment) = g
after_write g (Segment place) (Word word) = g
after_write g (Segment place) (Contents segment) = with_segments g (slice_set g.segments place segment)

abbrev pub after_access : GridState → Access GridRegister GridValue → GridState
after_access g (Write r v) = after_write g r v
after_access g a = g

abbrev pub grid_steps : MemorySteps GridState GridRegister GridValue
grid_steps = record { register = register_of; after = after_access; may_refuse = λ g a. false }

-- an access of a walk, sent to the doors, and what it gets
abbrev pub door_access : Access ℕ ℕ → Access GridRegister GridValue
door_access (Read r) = Read (Door r)
door_access (Write r word) = Write (Door r) (Word word)
door_access (TestAndSet r) = TestAndSet (Door r)
door_access (Clear r) = Clear (Door r)
door_access Nothing = Nothing

abbrev pub word_answer : Answer GridValue → Answer ℕ
word_answer (Value (Word word)) = Value word
word_answer (Value (Contents segment)) = Done
word_answer (WasSet was) = WasSet was
word_answer Done = Done

abbrev pub grid_walker_steps : ProgramSteps GridWalker GridRegister GridValue ℕ
grid_walker_steps = record {
  next = λ u. door_access (walk.next_access u.walker);
  resumed = λ u got. record { walker = walk.walker_after u.walker (word_answer got) };
  note = λ u got. walk.walker_note u.walker (word_answer got);
}

abbrev pub next_place : GridWalk → ℕ
next_place k = if nat_lt k.at k.most then k.at + 1 else k.at

abbrev pub contents_of : GridValue → Option Record
contents_of (Word word) = None
contents_of (Contents segment) = segment

-- each of these values is what stands in a segment
abbrev pub AreContents : List GridValue → Type 0
AreContents values = map (λ v. Contents (contents_of v)) values ≡ values

-- so many segments, of which those behind the ones that are made are empty
abbrev pub made_of : ℕ → List (Option Record) → List (Option Record)
made_of places made = made ++ replicate (places - length made) None

-- the segments that are made, what stands for each that is not, how many places there are, and for how many there is room
pub record AreMade (made : List GridValue) (empty : GridValue) (places capacity : ℕ) : Type 0 where
  pub contents : AreContents made
  pub empty_is : empty ≡ Contents None
  pub few : length made ≤ places
  pub room : places ≤ capacity

-- by rising place
abbrev pub grid_walks : WalkSteps GridWalk GridRegister GridValue
grid_walks = record {
  next = λ k. Segment k.at;
  place = λ k. Some k.at;
  resumed = λ k got. record { at = next_place k; most = k.most };
  is_over = λ k got. nat_le k.most (next_place k);
  segment = λ place. Segment place;
  stored = λ segment. Contents segment;
  content = contents_of;
}

abbrev pub grid_place : GridWalker → Option ℕ
grid_place u = walk.place_of u.walker

-- whoever begins stands before the door in the corner
abbrev pub grid_walker : ℕ → ℕ → GridWalker
grid_walker begun id = record { walker = walk.walk_of id }

abbrev pub most_in : GridState → ℕ
most_in g = g.most

abbrev pub grid_walk : GridState → GridWalk
grid_walk g = record { at = 0; most = length g.segments }
