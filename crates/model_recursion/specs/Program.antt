-- a seat's program: its accesses, and its state after each
use Rattle.std.specs.Prelude.{ℕ, ◌+◌, ◌-◌, ◌*◌, ◌%◌, ◌==◌, ◌||◌, ◌&&◌, min, nat_lt, nat_le, Bool, false, if◌then◌else◌, Option, Some, None}
use Rattle.model_steps.specs.declared.access.Access.{Access}
use Rattle.model_steps.specs.declared.access.Access.TheVariants.{Read, Write, Nothing}
use Rattle.model_steps.specs.declared.access.Answer.{Answer}
use Rattle.model_steps.specs.declared.access.Answer.TheVariants.{Value, WasSet, Done}
use Rattle.model_steps.specs.declared.note.Note.{Note}
use Rattle.model_steps.specs.declared.note.Note.TheVariants.{Quiet, Ended}
use Rattle.model_steps.specs.Steps.{ProgramSteps}
use Rattle.model_recursion.specs.declared.namer.Cell.{Cell}
use Rattle.model_recursion.specs.declared.namer.Survey.{Survey}
use Rattle.model_recursion.specs.declared.namer.Doing.{Doing}
use Rattle.model_recursion.specs.declared.namer.Doing.TheVariants.{Writes, Reads, Rests}
use Rattle.model_recursion.specs.declared.namer.Namer.{Namer}

abbrev pub cell_at : ℕ → ℕ → ℕ → Cell
cell_at level first seat = record { level = level; first = first; seat = seat }

abbrev pub first_survey : Survey
first_survey = record { at = 1; seen = 0; greater = false }

-- a seat that begins for an identity, of so many
abbrev pub namer_of : ℕ → ℕ → ℕ → Namer
namer_of most seat identity = record { most = most; seat = seat; identity = identity; level = most; first = 1; doing = Writes; survey = first_survey; name = 0 }

-- what a seat does next at its instance: it writes its identity; it reads the words, and has read them so far; it has this name
pub data Phase : Type 0 where
  Entering : Phase
  Collecting : Survey → Phase
  Over : ℕ → Phase

abbrev pub phase_at : Namer → Doing → Phase
phase_at u Writes = Entering
phase_at u Reads = Collecting u.survey
phase_at u Rests = Over u.name

abbrev pub phase_of : Namer → Phase
phase_of u = phase_at u u.doing

abbrev pub in_phase : Namer → Phase → Namer
in_phase u Entering = record u { doing = Writes }
in_phase u (Collecting c) = record u { doing = Reads; survey = c }
in_phase u (Over name) = record u { doing = Rests; name = name }

abbrev pub access_at : Namer → Phase → Access Cell ℕ
access_at u Entering = Write (cell_at u.level u.first u.seat) u.identity
access_at u (Collecting c) = Read (cell_at u.level u.first c.at)
access_at u (Over name) = Nothing

abbrev pub next_access : Namer → Access Cell ℕ
next_access u = access_at u (phase_of u)

-- the seat `at` with this word comes after a seat of this identity: by identity, and by number if the identities are equal
abbrev pub is_after : ℕ → ℕ → ℕ → ℕ → Bool
is_after identity seat word at = nat_lt identity word || ((identity == word) && nat_lt seat at)

-- how far the words are read, with this one: a word of 0 counts for nothing
abbrev pub surveyed : Namer → Survey → ℕ → Survey
surveyed u c word = record { at = c.at; seen = (if word == 0 then c.seen else min (c.seen + 1) 255); greater = (if word == 0 then c.greater else c.greater || is_after u.identity u.seat word c.at) }

-- it has counted fewer words than its level, and would be full if none of those that it has not read were 0
abbrev pub is_open : Namer → Survey → Bool
is_open u c = nat_lt c.seen u.level && nat_le u.level (c.seen + (u.most - c.at))

abbrev pub is_up : ℕ → Bool
is_up first = first % 2 == 1

-- the last name of an instance at this level
abbrev pub last_of : ℕ → ℕ → ℕ
last_of level first = if is_up first then min (first + 2 * (level - 1)) 65535 else first - 2 * (level - 1)

-- the first name of the instance to which those turn that are full there
abbrev pub turn_of : ℕ → ℕ → ℕ
turn_of level first = if is_up first then min (first + (2 * (level - 1) - 1)) 65535 else first - (2 * (level - 1) - 1)

abbrev pub came_to : Namer → ℕ → Namer
came_to u first = record u { level = u.level - 1; first = first; doing = Writes }

-- where a seat goes that has read as many words as decide
abbrev pub decided : Namer → Survey → Namer
decided u c =
    if nat_lt c.seen u.level then came_to u u.first
    else if c.greater then came_to u (turn_of u.level u.first)
    else in_phase u (Over (last_of u.level u.first))

abbrev pub read_next : Survey → Survey
read_next c = record c { at = min (c.at + 1) 255 }

abbrev pub read_on : Namer → Survey → Namer
read_on u c = if is_open u c then in_phase u (Collecting (read_next c)) else decided u c

abbrev pub value_in : Answer ℕ → ℕ
value_in (Value value) = value
value_in (WasSet was) = 0
value_in Done = 0

abbrev pub after_phase : Namer → Phase → ℕ → Namer
after_phase u Entering word = in_phase u (Collecting first_survey)
after_phase u (Collecting c) word = read_on u (surveyed u c word)
after_phase u (Over name) word = u

-- the program after an answer
abbrev pub namer_after : Namer → Answer ℕ → Namer
namer_after u got = after_phase u (phase_of u) (value_in got)

abbrev pub name_at : Phase → Option ℕ
name_at Entering = None
name_at (Collecting c) = None
name_at (Over name) = Some name

abbrev pub note_at : Phase → Note ℕ
note_at Entering = Quiet
note_at (Collecting c) = Quiet
note_at (Over name) = Ended name

-- what it says after an answer: its name, once it has one
abbrev pub namer_note : Namer → Answer ℕ → Note ℕ
namer_note u got = note_at (phase_of (namer_after u got))

abbrev pub namer_steps : ProgramSteps Namer Cell ℕ ℕ
namer_steps = record { next = next_access; resumed = namer_after; note = namer_note }

-- the most accesses of a seat up to here
abbrev pub accesses_at : Namer → Phase → ℕ
accesses_at u Entering = (u.most - u.level) * (u.most + 1)
accesses_at u (Collecting c) = (u.most - u.level) * (u.most + 1) + c.at
accesses_at u (Over name) = (u.most - u.level) * (u.most + 1) + (u.most + 1)

abbrev pub accesses_of : Namer → ℕ
accesses_of u = accesses_at u (phase_of u)
