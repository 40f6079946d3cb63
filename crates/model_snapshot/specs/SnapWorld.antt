-- what the calls of a snapshot object answer and leave
use Rattle.std.specs.Prelude.{◌≡◌, true, ℕ, Bool, nat_lt, if◌then◌else◌, length, List, Option, Some, None, option_and_then, Result, Err}
use Rattle.model_steps.specs.declared.access.Access.{Access}
use Rattle.model_steps.specs.declared.access.Access.TheVariants.{Read, Write, Nothing as Idle}
use Rattle.model_steps.specs.declared.note.Note.{Note}
use Rattle.model_steps.specs.declared.note.Note.TheVariants.{Quiet, Said, Ended}
use Rattle.model_steps.specs.declared.refusal.Refusal.{Refusal}
use Rattle.model_steps.specs.declared.refusal.Refusal.TheVariants.{AlreadyBegun, NotBegun, Finished, Spent}
use Rattle.model_steps.specs.declared.participant.Participant.{Participant}
use Rattle.model_steps.specs.Participant.{participant_of, program_of}
use Rattle.model_steps.specs.Locality.{Indistinguishable, StandAlike}
use Rattle.model_steps.specs.Steps.{ProgramSteps, ReadsOrWrites}
use Rattle.model_steps.specs.WorldState.{WorldState}
use Rattle.model_steps.specs.World.{after_begin, after_set, step_answer, after_step, may_refuse_step}
use Rattle.model_steps.specs.Calls.{reply_of}
use Rattle.model_snapshot.specs.declared.client.Client.{Client}
use Rattle.model_snapshot.specs.declared.client.Pending.{Pending}
use Rattle.model_snapshot.specs.declared.client.Pending.TheVariants.{Nothing, Placing, Scan, Update, Write as Writing}
use Rattle.model_snapshot.specs.declared.client.SnapReply.{SnapReply}
use Rattle.model_snapshot.specs.declared.client.SnapReply.TheVariants.{Quiet as Silent}
use Rattle.model_snapshot.specs.Places.{KnownPlaces, segment_in}
use Rattle.model_snapshot.specs.Client.{client_at, client_steps, is_idle, scanning, updating, record_of, placed_note}

-- a memory of type S, and participants on ways U whose scans take walks K
abbrev pub SnapState : Type 0 → Type 0 → Type 0 → Type 0
SnapState S U K = WorldState S (Client U K)

-- the place of an identity, once it has one
abbrev pub place_in : {S R V U K : Type 0} → KnownPlaces S R V U K → SnapState S U K → ℕ → Option ℕ
place_in t w id = option_and_then (λ c. t.place_of c.walker) (program_of id w.participants)

-- the way of a participant
abbrev pub way_now : {U K : Type 0} → Option (Participant (Client U K)) → Option U
way_now None = None
way_now (Some v) = Some v.program.walker

-- the ways of the participants that have begun
abbrev pub ways_of : {U K : Type 0} → List (Participant (Client U K)) → ℕ → Option U
ways_of ps p = way_now (participant_of p ps)

-- the participant that begins on this object with this identity
abbrev pub beginner_at : {S R V U K : Type 0} → KnownPlaces S R V U K → SnapState S U K → ℕ → Client U K
beginner_at t w id = client_at t.place_of id (t.walker_from (length w.participants) id) (t.walk_from w.memory)

abbrev pub after_snap_begin : {S R V U K : Type 0} → KnownPlaces S R V U K → SnapState S U K → ℕ → SnapState S U K
after_snap_begin t w id = after_begin w id (beginner_at t w id)

-- why `scan` is refused
abbrev pub scan_refusal_by : {U K : Type 0} → Option (Client U K) → Option Refusal
scan_refusal_by None = Some NotBegun
scan_refusal_by (Some c) = if is_idle c.pending then None else Some AlreadyBegun

-- why `update` is refused
abbrev pub update_refusal_by : {U K : Type 0} → Option (Client U K) → Option Refusal
update_refusal_by None = Some NotBegun
update_refusal_by (Some c) =
    if is_idle c.pending then (if nat_lt c.updates 1000000 then None else Some Spent)
    else Some AlreadyBegun

module _ {S U K : Type 0} where
  abbrev pub scan_refusal : SnapState S U K → ℕ → Option Refusal
  scan_refusal w id = scan_refusal_by (program_of id w.participants)

  abbrev pub update_refusal : SnapState S U K → ℕ → Option Refusal
  update_refusal w id = update_refusal_by (program_of id w.participants)

  -- a participant that was asked for something, where that is not refused
  abbrev pub asked : SnapState S U K → ℕ → (Client U K → Client U K) → Option (Client U K) → Option Refusal → SnapState S U K
  asked w id asking (Some c) None = after_set w id (asking c)
  asked w id asking (Some c) (Some why) = w
  asked w id asking None why = w

  abbrev pub after_scan : SnapState S U K → ℕ → SnapState S U K
  after_scan w id = asked w id scanning (program_of id w.participants) (scan_refusal w id)

  abbrev pub after_update : SnapState S U K → ℕ → ℕ → SnapState S U K
  after_update w id value = asked w id (λ c. updating c value) (program_of id w.participants) (update_refusal w id)

-- the reply of a step, from the note of the participant's program
abbrev pub reported : Note SnapReply → SnapReply
reported Quiet = Silent
reported (Said reply) = reply
reported (Ended reply) = reply

-- the reply of a step on the way to a place, from the note of the way
abbrev pub reported_of_way : Note ℕ → SnapReply
reported_of_way note = reported (placed_note note)

module _ {S R V U K : Type 0} (t : KnownPlaces S R V U K) where
  -- the participants' programs
  abbrev pub clients_over : ProgramSteps (Client U K) R V SnapReply
  clients_over = client_steps t.walker t.place_of t.walks

  abbrev pub snap_answer_by : SnapState S U K → ℕ → Option (Client U K) → Result SnapReply Refusal
  snap_answer_by w id None = Err NotBegun
  snap_answer_by w id (Some c) = if is_idle c.pending then Err Finished else reply_of reported (step_answer clients_over t.memory w id)

  abbrev pub after_snap_by : SnapState S U K → ℕ → Option (Client U K) → SnapState S U K
  after_snap_by w id None = w
  after_snap_by w id (Some c) = if is_idle c.pending then w else after_step clients_over t.memory w id

  -- the reply of a step, if no allocation fails
  abbrev pub snap_answer : SnapState S U K → ℕ → Result SnapReply Refusal
  snap_answer w id = snap_answer_by w id (program_of id w.participants)

  -- the object after that step
  abbrev pub after_snap_step : SnapState S U K → ℕ → SnapState S U K
  after_snap_step w id = after_snap_by w id (program_of id w.participants)

  -- whether that step may be refused because an allocation failed
  abbrev pub may_lack_memory : SnapState S U K → ℕ → Bool
  may_lack_memory w id = may_refuse_step clients_over t.memory w id

  -- this access changes no segment
  abbrev pub SparesSegments : S → Access R V → Type 0
  SparesSegments s a = (x : ℕ) → segment_in t (t.memory.after s a) x ≡ segment_in t s x

  -- an access for what is pending. On the way to a place it is a read, a write or none, and leaves each segment as it
  -- is. In a scan it is a read, and at the end of an update the write of the participant's own segment
  abbrev pub IsAccessFor : S → Client U K → Pending → Access R V → Type 0
  IsAccessFor s c Nothing a = a ≡ Idle
  IsAccessFor s c Placing a = ReadsOrWrites a × SparesSegments s a
  IsAccessFor s c Scan a = (r : R) × (a ≡ Read r)
  IsAccessFor s c (Update value) a = (r : R) × (a ≡ Read r)
  IsAccessFor s c (Writing value view) a = (place : ℕ) × (t.place_of c.walker ≡ Some place) × (a ≡ Write (t.walks.segment place) (t.walks.stored (Some (record_of c value view))))

  -- p is on its way to its place
  abbrev pub IsOnWay : SnapState S U K → ℕ → Type 0
  IsOnWay w p = (c : Client U K) × (program_of p w.participants ≡ Some c) × (c.pending ≡ Placing)

  -- only a step of p on the way to its place may fail because an allocation failed
  abbrev pub LacksOnWay : SnapState S U K → ℕ → Type 0
  LacksOnWay w p = may_lack_memory w p ≡ true → IsOnWay w p

  -- in each object that p cannot distinguish from this one, the reply to its step is the same
  abbrev pub AnswersAlike : SnapState S U K → ℕ → Result SnapReply Refusal → Type 0
  AnswersAlike w p reply = (other : SnapState S U K) → Indistinguishable clients_over t.memory p w other → reply ≡ snap_answer other p

  -- in each object that p cannot distinguish from the old one, the step leaves p in the same state as in the new one
  abbrev pub StaysAlike : SnapState S U K → SnapState S U K → ℕ → Type 0
  StaysAlike w new p = (other : SnapState S U K) → Indistinguishable clients_over t.memory p w other → StandAlike p new (after_snap_step other p)
