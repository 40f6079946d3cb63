-- a participant of a tree, as a program
use Rattle.std.specs.Prelude.{ℕ, Bool, true, false, if◌then◌else◌, List, [], Option, Some, None}
use Rattle.model_steps.specs.declared.access.Access.{Access}
use Rattle.model_steps.specs.declared.access.Access.TheVariants.{Read, Write, Nothing as Idle}
use Rattle.model_steps.specs.declared.access.Answer.{Answer}
use Rattle.model_steps.specs.declared.access.Answer.TheVariants.{Value, WasSet, Done}
use Rattle.model_steps.specs.declared.note.Note.{Note}
use Rattle.model_steps.specs.declared.note.Note.TheVariants.{Quiet, Said, Ended}
use Rattle.model_steps.specs.declared.record.Record.{Record}
use Rattle.model_steps.specs.Steps.{ProgramSteps}
use Rattle.model_splitter.specs.declared.tree.register.TreeRegister.{TreeRegister}
use Rattle.model_splitter.specs.declared.tree.register.TreeRegister.TheVariants.{Contents}
use Rattle.model_splitter.specs.declared.tree.register.TreeValue.{TreeValue}
use Rattle.model_splitter.specs.declared.tree.register.TreeValue.TheVariants.{Contents as Held}
use Rattle.model_splitter.specs.declared.tree.collect.Collect.{Collect}
use Rattle.model_splitter.specs.declared.tree.client.Client.{Client}
use Rattle.model_splitter.specs.declared.tree.client.Task.{Task}
use Rattle.model_splitter.specs.declared.tree.client.Task.TheVariants.{Placing, Nothing, Storing, Collecting}
use Rattle.model_splitter.specs.declared.tree.client.TreeReply.{TreeReply}
use Rattle.model_splitter.specs.declared.tree.client.TreeReply.TheVariants.{Placed, Stored, Collected}
use Rattle.model_splitter.specs.tree.Walk.{walk_of, next_access, walker_after, walker_note, place_of}
use Rattle.model_splitter.specs.tree.Collect.{first_collect, collect_reads, collect_after, collect_view}

-- the place and the view that a step returns
abbrev pub place_in : TreeReply → Option ℕ
place_in (Placed place) = Some place
place_in Stored = None
place_in (Collected view) = None

abbrev pub view_in : TreeReply → Option (List (ℕ × ℕ))
view_in (Placed place) = None
view_in Stored = None
view_in (Collected view) = Some view

abbrev pub place_reported : Note TreeReply → Option ℕ
place_reported Quiet = None
place_reported (Said reply) = place_in reply
place_reported (Ended reply) = None

abbrev pub view_reported : Note TreeReply → Option (List (ℕ × ℕ))
view_reported Quiet = None
view_reported (Said reply) = view_in reply
view_reported (Ended reply) = None

-- whether it is on the way to its place; has nothing to do; collects
abbrev pub is_placing : Task → Bool
is_placing Placing = true
is_placing t = false

abbrev pub is_idle : Task → Bool
is_idle Nothing = true
is_idle t = false

abbrev pub is_collecting : Task → Bool
is_collecting (Collecting collect) = true
is_collecting t = false

-- a participant that begins
abbrev pub client_of : ℕ → Client
client_of id = record { walker = walk_of id; task = Placing }

abbrev pub with_task : Client → Task → Client
with_task c task = record { walker = c.walker; task = task }

-- one that was asked to store, and one that was asked to collect
abbrev pub storing : Client → ℕ → Client
storing c value = with_task c (Storing value)

abbrev pub collecting : Client → Client
collecting c = with_task c (Collecting first_collect)

-- the record that it writes into its segment
abbrev pub record_of : Client → ℕ → Record
record_of c value = record { identity = c.walker.visitor.identity; value = value; number = 0; view = [] }

abbrev pub write_at : Option ℕ → Record → Access TreeRegister TreeValue
write_at None r = Idle
write_at (Some place) r = Write (Contents place) (Held (Some r))

-- the access of the next step
abbrev pub access_for : Client → Task → Access TreeRegister TreeValue
access_for c Placing = next_access c.walker
access_for c Nothing = Idle
access_for c (Storing value) = write_at (place_of c.walker) (record_of c value)
access_for c (Collecting collect) = Read (collect_reads collect)

abbrev pub client_access : Client → Access TreeRegister TreeValue
client_access c = access_for c c.task

abbrev pub is_placed : Note ℕ → Bool
is_placed Quiet = false
is_placed (Said place) = false
is_placed (Ended place) = true

abbrev pub placed_note : Note ℕ → Note TreeReply
placed_note Quiet = Quiet
placed_note (Said place) = Quiet
placed_note (Ended place) = Said (Placed place)

-- the participant after an answer on the way to its place, and the note of the step
abbrev pub placing_after : Client → Answer TreeValue → Client
placing_after c got = record { walker = walker_after c.walker got; task = if is_placed (walker_note c.walker got) then Nothing else c.task }

abbrev pub placing_note : Client → Answer TreeValue → Note TreeReply
placing_note c got = placed_note (walker_note c.walker got)

-- the participant after a read of a collect, and the note of the step
abbrev pub task_after : Collect → Option (List (ℕ × ℕ)) → Task
task_after collect None = Collecting collect
task_after collect (Some view) = Nothing

abbrev pub collected_note : Option (List (ℕ × ℕ)) → Note TreeReply
collected_note None = Quiet
collected_note (Some view) = Said (Collected view)

abbrev pub collecting_after : Client → Collect → TreeValue → Client
collecting_after c collect got = with_task c (task_after (collect_after collect got) (collect_view collect got))

abbrev pub collecting_note : Collect → TreeValue → Note TreeReply
collecting_note collect got = collected_note (collect_view collect got)

abbrev pub read_after : Client → Collect → Answer TreeValue → Client
read_after c collect (Value got) = collecting_after c collect got
read_after c collect (WasSet was) = c
read_after c collect Done = c

abbrev pub read_note : Collect → Answer TreeValue → Note TreeReply
read_note collect (Value got) = collecting_note collect got
read_note collect (WasSet was) = Quiet
read_note collect Done = Quiet

abbrev pub after_for : Client → Task → Answer TreeValue → Client
after_for c Placing got = placing_after c got
after_for c Nothing got = c
after_for c (Storing value) got = with_task c Nothing
after_for c (Collecting collect) got = read_after c collect got

abbrev pub note_for : Client → Task → Answer TreeValue → Note TreeReply
note_for c Placing got = placing_note c got
note_for c Nothing got = Quiet
note_for c (Storing value) got = Said Stored
note_for c (Collecting collect) got = read_note collect got

abbrev pub client_after : Client → Answer TreeValue → Client
client_after c got = after_for c c.task got

abbrev pub client_note : Client → Answer TreeValue → Note TreeReply
client_note c got = note_for c c.task got

-- a participant is a program of one access a step
abbrev pub client_steps : ProgramSteps Client TreeRegister TreeValue TreeReply
client_steps = record { next = client_access; resumed = client_after; note = client_note }
