-- The reasons for which a line can't follow, by what each is the breach of (the table: this project's profile)
use Rattle.std.specs.Prelude.{◌≡◌, ◌≢◌, ℕ, ◌+◌, ◌-◌, ◌<◌, ◌≤◌, ◌==◌, ◌&&◌, max, Bool, true, Option, Some, None, Result, Ok, Err, is_none}
use Rattle.model_steps.specs.declared.refusal.Refusal.{Refusal}
use Rattle.model_steps.specs.Refusal.{refusal_number}
use Rattle.model_renaming.specs.RenameObject.{RenameTerms, RenameObject, no_begin, no_step, IsFreePlace, MayPropose, ShowsConflict, HasConflict}
use Rattle.model_pool.specs.PoolObject.{no_entry, no_probe, number_in, IsFree}
use Rattle.model_pool.specs.Widening.{widen_refusal}
use Rattle.model_pool.specs.slots.Slots.{IsFetched}
use Rattle.model_pool.specs.slots.SlotsObject.{SlotsObject}
use Rattle.model_asked.specs.declared.event.Event.{Event}
use Rattle.model_asked.specs.declared.event.Event.TheVariants.{Begin, Step, Enter, Probe, Seek, Leave, Put, Get, Widen}
use Rattle.text_checker.specs.declared.reason.Reason.{Reason}
use Rattle.text_checker.specs.declared.reason.Reason.TheVariants as reason
use Rattle.text_records.specs.declared.reported.Reported.{Reported}
use Rattle.text_records.specs.declared.reported.Reported.TheVariants.{Place, Proposed, Saw, Named, Spent, Missed, Got, Left, Value, Refused}
use Rattle.text_records.specs.Reported.{identity_of, is_step, is_reply_of}
use Rattle.text_checker.specs.judges.Named.{MayBeNamed}
use Rattle.text_checker.specs.ObjectRun.{DeskObject}

abbrev pub reason_number : Reason → ℕ
reason_number reason.Reply = 1
reason_number reason.Refusal = 2
reason_number reason.Place = 3
reason_number reason.Proposal = 4
reason_number reason.View = 5
reason_number reason.Name = 6
reason_number reason.Pool = 7

abbrev pub why_of : Result ℕ Refusal → Option Refusal
why_of (Ok number) = None
why_of (Err why) = Some why

-- the refusal that an event is due, failed allocations aside
abbrev pub refusal_due : RenameTerms → DeskObject → Event → Option Refusal
refusal_due terms o (Begin p) = no_begin terms o.names p
refusal_due terms o (Step p) = no_step o.names p
refusal_due terms o (Enter p) = no_entry o.slots.pool p
refusal_due terms o (Probe p) = no_probe o.slots.pool p
refusal_due terms o (Seek p) = no_probe o.slots.pool p
refusal_due terms o (Leave p) = why_of (number_in o.slots.pool p)
refusal_due terms o (Put p value) = why_of (number_in o.slots.pool p)
refusal_due terms o (Get p) = why_of (number_in o.slots.pool p)
refusal_due terms o (Widen more) = widen_refusal o.slots.pool.most o.slots.pool.size more

-- where none is due, an allocation failure may be told of a step in a world that grows
abbrev pub is_reported_rightly : Option Refusal → Bool → ℕ → Bool
is_reported_rightly None lacks number = lacks && number == 12
is_reported_rightly (Some why) lacks number = refusal_number why == number

-- a refusal is reported where it is due and as it is due
abbrev pub is_refused_as_due : Option Refusal → Bool → Reported → Bool
is_refused_as_due due lacks (Refused number) = is_reported_rightly due lacks number
is_refused_as_due due lacks t = is_none due

-- the identity has no place, and no one this one
abbrev pub GivesFreePlace : RenameObject → ℕ → Reported → Type 0
GivesFreePlace o p (Place place) = IsFreePlace o p place
GivesFreePlace o p t = Unit {0}

-- who proposes may propose this number; who saw has proposed and has proposals left; who is spent has none left
abbrev pub ProposesInTurn : RenameTerms → RenameObject → ℕ → Reported → Type 0
ProposesInTurn terms o p (Proposed number) = MayPropose terms o p number
ProposesInTurn terms o p (Saw view) = (1 ≤ o.count p) × (o.count p < terms.limit)
ProposesInTurn terms o p Spent = o.count p ≡ terms.limit
ProposesInTurn terms o p t = Unit {0}

-- what was seen is a moment since the identity's last proposal in which another proposes the same; and there is one where the
-- identity is spent
abbrev pub ShowsWhatWas : RenameObject → ℕ → Reported → Type 0
ShowsWhatWas o p (Saw view) = ShowsConflict o p view
ShowsWhatWas o p Spent = HasConflict o p
ShowsWhatWas o p t = Unit {0}

abbrev pub GivesFreeName : RenameObject → ℕ → Reported → Type 0
GivesFreeName o p (Named name shown) = MayBeNamed o p name shown
GivesFreeName o p t = Unit {0}

-- a number is got that is free; not each probe of a stay is missed, by the present size; the number that is held is given back;
-- and a value is got that is in its slot
abbrev pub KeepsThePool : SlotsObject ℕ → ℕ → Reported → Type 0
KeepsThePool o p Missed = o.pool.probes p + 1 ≢ max 1 (o.pool.size - 1)
KeepsThePool o p (Got number) = IsFree o.pool number
KeepsThePool o p (Left number) = number_in o.pool p ≡ Ok number
KeepsThePool o p (Value value) = IsFetched o.values (number_in o.pool p) (Ok value)
KeepsThePool o p t = Unit {0}

-- what a reason is the breach of
abbrev pub Keeps : RenameTerms → DeskObject → Event → Reported → Reason → Type 0
Keeps terms o e t reason.Reply = is_reply_of t e ≡ true
Keeps terms o e t reason.Refusal = is_refused_as_due (refusal_due terms o e) (terms.grows && is_step e) t ≡ true
Keeps terms o e t reason.Place = GivesFreePlace o.names (identity_of e) t
Keeps terms o e t reason.Proposal = ProposesInTurn terms o.names (identity_of e) t
Keeps terms o e t reason.View = ShowsWhatWas o.names (identity_of e) t
Keeps terms o e t reason.Name = GivesFreeName o.names (identity_of e) t
Keeps terms o e t reason.Pool = KeepsThePool o.slots (identity_of e) t

-- no reason fits
abbrev pub KeepsAll : RenameTerms → DeskObject → Event → Reported → Type 0
KeepsAll terms o e t = (why : Reason) → Keeps terms o e t why

-- this reason fits, and no lesser one
pub record IsLeastReason (terms : RenameTerms) (o : DeskObject) (e : Event) (t : Reported) (why : Reason) : Type 0 where
  pub fits : Keeps terms o e t why → ⊥
  pub least : (other : Reason) → reason_number other < reason_number why → Keeps terms o e t other
