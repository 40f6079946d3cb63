-- which replies are those of which commands (the command language: this project's profile)
use Rattle.std.specs.Prelude.{ℕ, Bool, true, false}
use Rattle.model_asked.specs.declared.event.Event.{Event}
use Rattle.model_asked.specs.declared.event.Event.TheVariants.{Begin, Step, Enter, Probe, Seek, Leave, Put, Get, Widen}
use Rattle.text_records.specs.declared.reported.Reported.{Reported}
use Rattle.text_records.specs.declared.reported.Reported.TheVariants.{Ok, Quiet, Stop, Right, Down, Place, Proposed, Saw, Named, Spent, Missed, Got, Left, Value, Owner, Refused}

-- who an event is of; a widening is nobody's, and 0 is nobody
abbrev pub identity_of : Event → ℕ
identity_of (Begin p) = p
identity_of (Step p) = p
identity_of (Enter p) = p
identity_of (Probe p) = p
identity_of (Seek p) = p
identity_of (Leave p) = p
identity_of (Put p value) = p
identity_of (Get p) = p
identity_of (Widen more) = 0

abbrev pub is_done : Event → Bool
is_done (Step p) = false
is_done (Probe p) = false
is_done (Seek p) = false
is_done (Leave p) = false
is_done (Get p) = false
is_done e = true

abbrev pub is_step : Event → Bool
is_step (Step p) = true
is_step e = false

abbrev pub is_probe : Event → Bool
is_probe (Probe p) = true
is_probe e = false

abbrev pub gets_number : Event → Bool
gets_number (Probe p) = true
gets_number (Seek p) = true
gets_number e = false

abbrev pub is_leave : Event → Bool
is_leave (Leave p) = true
is_leave e = false

abbrev pub is_get : Event → Bool
is_get (Get p) = true
is_get e = false

abbrev pub is_name : Reported → Bool
is_name (Named name shown) = true
is_name t = false

-- a refusal may be told of any command; else the reply is one of its own
abbrev pub is_reply_of : Reported → Event → Bool
is_reply_of Ok e = is_done e
is_reply_of Quiet e = is_step e
is_reply_of Stop e = false
is_reply_of Right e = false
is_reply_of Down e = false
is_reply_of (Place place) e = is_step e
is_reply_of (Proposed number) e = is_step e
is_reply_of (Saw view) e = is_step e
is_reply_of (Named name shown) e = is_step e
is_reply_of Spent e = is_step e
is_reply_of Missed e = is_probe e
is_reply_of (Got number) e = gets_number e
is_reply_of (Left number) e = is_leave e
is_reply_of (Value value) e = is_get e
is_reply_of (Owner owner) e = false
is_reply_of (Refused number) e = true
