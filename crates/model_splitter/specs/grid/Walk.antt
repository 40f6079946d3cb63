-- a walk from door to door
use Rattle.std.specs.Prelude.{ℕ, ◌+◌, ◌*◌, Option, Some, None, option_and_then}
use Rattle.model_steps.specs.declared.access.Access.{Access}
use Rattle.model_steps.specs.declared.access.Answer.{Answer}
use Rattle.model_steps.specs.declared.note.Note.{Note}
use Rattle.model_steps.specs.Steps.{ProgramSteps}
use Rattle.model_splitter.specs.declared.stage.VisitStage.{VisitStage}
use Rattle.model_splitter.specs.Visitor.{access_of, visitor_at, stage_by}
use Rattle.model_splitter.specs.Walk.{gone_on, note_at_door, place_at_door, accesses_at}
use Rattle.model_splitter.specs.declared.grid.door.Door.{Door}
use Rattle.model_splitter.specs.declared.grid.walker.Walker.{Walker}
use Rattle.model_splitter.specs.grid.Door.{number_of, right_of, down_of, corner}

-- a walk before a door: door k has registers 2k and 2k + 1
abbrev pub walker_at : ℕ → Door → Walker
walker_at id door = record { visitor = visitor_at id (2 * number_of door) (2 * number_of door + 1); door = door }

-- a walk that begins
abbrev pub walk_of : ℕ → Walker
walk_of id = walker_at id corner

-- the access of the next step: that of the visit
abbrev pub next_access : Walker → Access ℕ ℕ
next_access u = access_of u.visitor

abbrev pub visit_on : Walker → VisitStage → Walker
visit_on u s = record u { visitor = record u.visitor { stage = s } }

-- the walk whose visit is at this stage. After a visit that ends right or down it is before the next door
abbrev pub walked_to : Walker → VisitStage → Walker
walked_to u s = gone_on (visit_on u) (walker_at u.visitor.identity (right_of u.door)) (walker_at u.visitor.identity (down_of u.door)) s

-- the walk after an answer
abbrev pub walker_after : Walker → Answer ℕ → Walker
walker_after u got = walked_to u (stage_by u.visitor got)

-- what a walk says after an answer
abbrev pub walker_note : Walker → Answer ℕ → Note ℕ
walker_note u got = note_at_door (number_of u.door) (stage_by u.visitor got)

abbrev pub walker_steps : ProgramSteps Walker ℕ ℕ ℕ
walker_steps = record { next = next_access; resumed = walker_after; note = walker_note }

-- the place at which a walk has ended
abbrev pub place_of : Walker → Option ℕ
place_of u = place_at_door (number_of u.door) u.visitor.stage

abbrev pub place_by : Option Walker → Option ℕ
place_by walk = option_and_then place_of walk

-- the most accesses of a walk up to here: four at each door that it passed, and those at its door
abbrev pub accesses_of : Walker → ℕ
accesses_of u = 4 * u.door.depth + accesses_at u.visitor.stage

abbrev pub accesses_by : Option Walker → ℕ
accesses_by None = 0
accesses_by (Some u) = accesses_of u
