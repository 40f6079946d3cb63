-- what a participant of a snapshot object does
use Rattle.std.specs.Prelude.{ℕ, ◌+◌, Bool, true, false, if◌then◌else◌, List, Option, Some, None}
use Rattle.model_steps.specs.declared.access.Access.{Access}
use Rattle.model_steps.specs.declared.access.Access.TheVariants.{Read, Write, Nothing as Idle}
use Rattle.model_steps.specs.declared.access.Answer.{Answer}
use Rattle.model_steps.specs.declared.access.Answer.TheVariants.{Value, WasSet, Done}
use Rattle.model_steps.specs.declared.note.Note.{Note}
use Rattle.model_steps.specs.declared.note.Note.TheVariants.{Quiet, Said, Ended}
use Rattle.model_steps.specs.Steps.{ProgramSteps}
use Rattle.model_steps.specs.declared.record.Record.{Record}
use Rattle.model_snapshot.specs.declared.client.Client.{Client}
use Rattle.model_snapshot.specs.declared.client.Pending.{Pending}
use Rattle.model_snapshot.specs.declared.client.Pending.TheVariants.{Nothing, Placing, Scan, Update, Write as Writing}
use Rattle.model_snapshot.specs.declared.client.SnapReply.{SnapReply}
use Rattle.model_snapshot.specs.declared.client.SnapReply.TheVariants.{Placed, Written, View as Viewed}
use Rattle.model_snapshot.specs.Walks.{WalkSteps}
use Rattle.model_snapshot.specs.Scan.{scan_from, scan_after, scan_view}

-- the view with which a scan has ended
abbrev pub view_reported : SnapReply → Option (List (ℕ × ℕ))
view_reported (Viewed view) = Some view
view_reported s = None

abbrev pub is_idle : Pending → Bool
is_idle Nothing = true
is_idle p = false

abbrev pub first_pending : Option ℕ → Pending
first_pending None = Placing
first_pending (Some place) = Nothing

-- a participant that begins
abbrev pub client_at : {U K : Type 0} → (U → Option ℕ) → ℕ → U → K → Client U K
client_at place_of identity walker walk = record { identity = identity; walker = walker; walk = walk; updates = 0; pending = first_pending (place_of walker); scan = scan_from walk }

-- one that was asked to scan
abbrev pub scanning : {U K : Type 0} → Client U K → Client U K
scanning c = record { identity = c.identity; walker = c.walker; walk = c.walk; updates = c.updates; pending = Scan; scan = scan_from c.walk }

-- one that was asked to update
abbrev pub updating : {U K : Type 0} → Client U K → ℕ → Client U K
updating c value = record { identity = c.identity; walker = c.walker; walk = c.walk; updates = c.updates + 1; pending = Update value; scan = scan_from c.walk }

-- what it writes
abbrev pub record_of : {U K : Type 0} → Client U K → ℕ → List (ℕ × ℕ) → Record
record_of c value view = record { identity = c.identity; value = value; number = c.updates; view = view }

abbrev pub with_pending : {U K : Type 0} → Client U K → Pending → Client U K
with_pending c pending = record c { pending = pending }

-- whether a way has reached its place, by its note
abbrev pub is_placed : Note ℕ → Bool
is_placed Quiet = false
is_placed (Said place) = false
is_placed (Ended place) = true

-- the note of a step on the way to a place, from the note of the way
abbrev pub placed_note : Note ℕ → Note SnapReply
placed_note Quiet = Quiet
placed_note (Said place) = Quiet
placed_note (Ended place) = Said (Placed place)

module _ {U R V : Type 0} (walker : ProgramSteps U R V ℕ) where
  abbrev pub placing_resumed : {K : Type 0} → Client U K → Answer V → Client U K
  placing_resumed c got = record c { walker = walker.resumed c.walker got; pending = if is_placed (walker.note c.walker got) then Nothing else c.pending }

  abbrev pub placing_note : {K : Type 0} → Client U K → Answer V → Note SnapReply
  placing_note c got = placed_note (walker.note c.walker got)

abbrev pub pending_after : Option (List (ℕ × ℕ)) → Option ℕ → Pending → Pending
pending_after None updates_with pending = pending
pending_after (Some view) None pending = Nothing
pending_after (Some view) (Some value) pending = Writing value view

abbrev pub note_after : Option (List (ℕ × ℕ)) → Option ℕ → Note SnapReply
note_after None updates_with = Quiet
note_after (Some view) None = Said (Viewed view)
note_after (Some view) (Some value) = Quiet

module _ {K R V : Type 0} (walks : WalkSteps K R V) where
  abbrev pub scan_resumed : {U : Type 0} → Client U K → V → Option ℕ → Client U K
  scan_resumed c got updates_with = record c { scan = scan_after walks c.scan got c.walk; pending = pending_after (scan_view walks c.scan got) updates_with c.pending }

  abbrev pub scan_note : {U : Type 0} → Client U K → V → Option ℕ → Note SnapReply
  scan_note c got updates_with = note_after (scan_view walks c.scan got) updates_with

  abbrev pub read_resumed : {U : Type 0} → Client U K → Answer V → Option ℕ → Client U K
  read_resumed c (Value got) updates_with = scan_resumed c got updates_with
  read_resumed c (WasSet was) updates_with = c
  read_resumed c Done updates_with = c

  abbrev pub read_note : {U : Type 0} → Client U K → Answer V → Option ℕ → Note SnapReply
  read_note c (Value got) updates_with = scan_note c got updates_with
  read_note c (WasSet was) updates_with = Quiet
  read_note c Done updates_with = Quiet

module _ {U K R V : Type 0} (walker : ProgramSteps U R V ℕ) (place_of : U → Option ℕ) (walks : WalkSteps K R V) where
  abbrev pub write_at : Option ℕ → Record → Access R V
  write_at None r = Idle
  write_at (Some place) r = Write (walks.segment place) (walks.stored (Some r))

  abbrev pub access_for : Client U K → Pending → Access R V
  access_for c Nothing = Idle
  access_for c Placing = walker.next c.walker
  access_for c Scan = Read (walks.next c.scan.walk)
  access_for c (Update value) = Read (walks.next c.scan.walk)
  access_for c (Writing value view) = write_at (place_of c.walker) (record_of c value view)

  abbrev pub next_access : Client U K → Access R V
  next_access c = access_for c c.pending

module _ {U K R V : Type 0} (walker : ProgramSteps U R V ℕ) (walks : WalkSteps K R V) where
  abbrev pub after_for : Client U K → Pending → Answer V → Client U K
  after_for c Nothing got = c
  after_for c Placing got = placing_resumed walker c got
  after_for c Scan got = read_resumed walks c got None
  after_for c (Update value) got = read_resumed walks c got (Some value)
  after_for c (Writing value view) got = with_pending c Nothing

  abbrev pub note_for : Client U K → Pending → Answer V → Note SnapReply
  note_for c Nothing got = Quiet
  note_for c Placing got = placing_note walker c got
  note_for c Scan got = read_note walks c got None
  note_for c (Update value) got = read_note walks c got (Some value)
  note_for c (Writing value view) got = Said Written

  abbrev pub client_after : Client U K → Answer V → Client U K
  client_after c got = after_for c c.pending got

  abbrev pub client_note : Client U K → Answer V → Note SnapReply
  client_note c got = note_for c c.pending got

-- a participant is a program of one access a step
abbrev pub client_steps : {U K R V : Type 0} → ProgramSteps U R V ℕ → (U → Option ℕ) → WalkSteps K R V → ProgramSteps (Client U K) R V SnapReply
client_steps walker place_of walks = record {
  next = next_access walker place_of walks;
  resumed = client_after walker walks;
  note = client_note walker walks;
}
