-- what waits first of a connection: a line that the server answers by itself, or the beginning of one
use Rattle.std.specs.Prelude.{ℕ, ◌+◌, ◌||◌, ◌&&◌, ◌==◌, nat_le, not, if◌then◌else◌, Bool, List, [], ◌∷◌, length, get_or, Option, Some, None, is_some}
use Rattle.text_lines.specs.Lines.{has_no_lf, whole_lines}
use Rattle.text_lines.specs.declared.held.query.TheConstants.{QUERY_MAX}
use Rattle.text_player.specs.declared.form.TheConstants.{TURN_ROOM}
use Rattle.service_loop.specs.Asking.{taking_of}
use Rattle.service_loop.specs.BuffersState.{BuffersState}
use Rattle.service_loop.specs.Queries.{query_of}
use Rattle.service_loop.specs.TakeLines.{take_line}
use Rattle.service_loop.specs.declared.take_line.TakeLine.{TakeLine}
use Rattle.service_loop.specs.declared.terms.Query.{Query}
use Rattle.service_loop.specs.declared.buffers.TheConstants.{UNSENT_ROOM, MOST_LINES}

-- what a line says, and how many bytes it has with its LF
abbrev pub with_count : {A : Type 0} → List ℕ → Option A → Option (A × ℕ)
with_count line None = None
with_count line (Some what) = Some (what, length line + 1)

-- what the first of these lines says, as it is read so
abbrev pub first_of : {A : Type 0} → (List ℕ → Option A) → List (List ℕ) → Option (A × ℕ)
first_of read [] = None
first_of read (line ∷ ls) = with_count line (read line)

-- what the first whole line of these bytes asks, where it asks who holds numbers or the terms
abbrev pub first_query : List ℕ → Option (Query × ℕ)
first_query bytes = first_of query_of (whole_lines bytes)

-- for which identity it takes a number, where it takes one
abbrev pub first_taking : List ℕ → Option (ℕ × ℕ)
first_taking bytes = first_of taking_of (whole_lines bytes)

abbrev pub seconds_waited : Option (TakeLine × ℕ) → ℕ
seconds_waited None = 0
seconds_waited (Some said) = said.0.seconds

-- for how many seconds it waits for one
abbrev pub first_wait : List ℕ → ℕ
first_wait bytes = seconds_waited (first_of take_line (whole_lines bytes))

-- these bytes begin with the first letter of a line that the server answers by itself
abbrev pub begins : List ℕ → Bool
begins bytes = (get_or bytes 0 0 == 104) || ((get_or bytes 0 0 == 116) || (get_or bytes 0 0 == 119))

-- they are the beginning of a line that may be one
abbrev pub is_prefix_of : List ℕ → Bool
is_prefix_of bytes = begins bytes && (nat_le (length bytes) QUERY_MAX && has_no_lf bytes)

-- what waits begins with a line, and lines are still answered
abbrev pub is_at_line : BuffersState → Bool
is_at_line s = not s.in_line && not s.responder.over

-- nothing waits but the beginning of such a line
abbrev pub waits_for_more : BuffersState → Bool
waits_for_more s = (length s.inbox == 0) || (is_at_line s && is_prefix_of s.inbox)

-- what is asked by the line that waits first
abbrev pub waiting_query : BuffersState → Option (Query × ℕ)
waiting_query s = if is_at_line s then first_query s.inbox else None

-- for which identity it takes a number
abbrev pub waiting_taking : BuffersState → Option (ℕ × ℕ)
waiting_taking s = if is_at_line s then first_taking s.inbox else None

-- there is room for one reply more, and one line more is counted
abbrev pub has_room : BuffersState → Bool
has_room s = nat_le (length s.outbox + TURN_ROOM) UNSENT_ROOM && nat_le s.responder.summary.lines MOST_LINES

-- more may come and be taken
abbrev pub may_take : BuffersState → Bool
may_take s = not s.broken && (not s.ended && has_room s)

abbrev pub identity_of : Option (ℕ × ℕ) → Option ℕ
identity_of None = None
identity_of (Some taking) = Some taking.0

-- for which identity a connection takes a number next, where there is room for the answer
abbrev pub taken_for : BuffersState → Option ℕ
taken_for s = if may_take s then identity_of (waiting_taking s) else None

-- where it takes one it is at fault, and nothing else changes
abbrev pub given_up : BuffersState → BuffersState
given_up s = record s { broken = s.broken || is_some (taken_for s) }
