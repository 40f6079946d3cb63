-- the specification of the snapshot object (Afek et al. 1993), over its calls with their replies alone. A scan returns
-- what the object held at one moment within the scan, and it ends whatever the others do. That steps are counted, and
-- so bounded, is this project's profile
use Rattle.std.specs.Prelude.{◌≡◌, ◌≢◌, ◌⊎◌, ℕ, ◌+◌, ◌<◌, ◌≤◌, ◌==◌, nat_lt, nat_le, if◌then◌else◌, Bool, true, false, List, ◌++◌, length, Option, Some, None, Ok, Err}
use Rattle.model_steps.specs.SetAt.{set_at}
use Rattle.model_steps.specs.declared.refusal.Refusal.{Refusal}
use Rattle.model_steps.specs.declared.refusal.Refusal.TheVariants.{ZeroIdentity, AlreadyBegun, Full, NotBegun, Finished, Spent, NoMemory}
use Rattle.model_steps.specs.World.{done_unless}
use Rattle.model_steps.specs.Runs.{Run}
use Rattle.model_snapshot.specs.declared.client.SnapReply.{SnapReply}
use Rattle.model_snapshot.specs.declared.client.SnapReply.TheVariants.{Quiet, Placed, Written, View as Viewed}
use Rattle.model_steps.specs.View.{IsRising, value_of}
use Rattle.model_snapshot.specs.Places.{KnownPlaces}
use Rattle.model_snapshot.specs.SnapCalls.{SnapCall}
use Rattle.model_snapshot.specs.SnapCalls.SnapCall.{Began, Updated, Scanned, Stepped}

-- whether an identity has begun, and what it still has to do
pub data Task : Type 0 where
  Absent : Task
  Idle : Task
  Placing : Task
  Scanning : Task
  Updating : ℕ → Task

-- the object. It has the number that have begun, and moments: maps from identity to value, with numbers from 0 to the
-- last. Of each identity it has its task, the updates asked of it, the steps of its task, the last moment at the first
-- of these, and its place
pub record SnapObject : Type 0 where
  pub begun : ℕ
  pub task : ℕ → Task
  pub updates : ℕ → ℕ
  pub steps : ℕ → ℕ
  pub since : ℕ → ℕ
  pub place : ℕ → Option ℕ
  pub last : ℕ
  pub moment : ℕ → ℕ → Option ℕ

-- the moment in which no participant has written
abbrev pub no_values : ℕ → Option ℕ
no_values q = None

abbrev pub new_object : SnapObject
new_object = record { begun = 0; task = λ p. Absent; updates = λ p. 0; steps = λ p. 0; since = λ p. 0; place = λ p. None; last = 0; moment = λ i. no_values }

abbrev pub value_written : Task → Option ℕ
value_written (Updating value) = Some value
value_written t = None

-- the moment that was the last at the first step of what p does
abbrev pub since_of : SnapObject → ℕ → ℕ
since_of o p = if o.steps p == 0 then o.last else o.since p

-- p has this task, of which it has made this many steps since this moment
abbrev pub with_task : SnapObject → ℕ → Task → ℕ → ℕ → SnapObject
with_task o p task steps since = record o { task = set_at o.task p task; steps = set_at o.steps p steps; since = set_at o.since p since }

abbrev pub asked_for : SnapObject → ℕ → Task → SnapObject
asked_for o p task = with_task o p task 0 0

-- one more update was asked of p
abbrev pub with_update : SnapObject → ℕ → SnapObject
with_update o p = record o { updates = set_at o.updates p (o.updates p + 1) }

-- p has made one more step, and then has this task
abbrev pub stepped_to : SnapObject → ℕ → Task → SnapObject
stepped_to o p task = with_task o p task (o.steps p + 1) (since_of o p)

abbrev pub with_begun : SnapObject → SnapObject
with_begun o = record o { begun = o.begun + 1 }

abbrev pub with_place : SnapObject → ℕ → ℕ → SnapObject
with_place o p place = record o { place = set_at o.place p (Some place) }

-- a write makes a new moment, in which p has this value, and each other identity the value that it had
abbrev pub with_moment : SnapObject → ℕ → Option ℕ → SnapObject
with_moment o p value = record o { last = o.last + 1; moment = set_at o.moment (o.last + 1) (set_at (o.moment o.last) p value) }

abbrev pub observed_step : SnapObject → ℕ → SnapReply → SnapObject
observed_step o p Quiet = stepped_to o p (o.task p)
observed_step o p (Placed place) = with_place (stepped_to o p Idle) p place
observed_step o p Written = with_moment (stepped_to o p Idle) p (value_written (o.task p))
observed_step o p (Viewed view) = stepped_to o p Idle

-- the object after a call
abbrev pub observed : SnapObject → SnapCall → SnapObject
observed o (Began p (Ok done)) = with_begun (asked_for o p Placing)
observed o (Updated p value (Ok done)) = with_update (asked_for o p (Updating value)) p
observed o (Scanned p (Ok done)) = asked_for o p Scanning
observed o (Stepped p (Ok reply)) = observed_step o p reply
observed o s = o

-- a view is a moment: by rising identity, a pair for each identity that has a value in it
pub record IsMoment (view : List (ℕ × ℕ)) (moment : ℕ → Option ℕ) : Type 0 where
  pub rising : IsRising view
  pub values : (q : ℕ) → value_of q view ≡ moment q

-- a view shows a moment from this one on, and has no more pairs than have begun
pub record ShowsMoment (o : SnapObject) (since : ℕ) (view : List (ℕ × ℕ)) : Type 0 where
  pub index : ℕ
  pub no_earlier : since ≤ index
  pub no_later : index ≤ o.last
  pub is : IsMoment view (o.moment index)
  pub few : length view ≤ o.begun

-- the most participants, the most reads of one collect, and the most steps to a place and of a scan, by how many have
-- begun
pub record SnapBounds : Type 0 where
  pub most : ℕ
  pub placing : ℕ → ℕ
  pub scanning : ℕ → ℕ
  pub collecting : ℕ

-- the most steps of a task. An update writes once after its scan
abbrev pub most_steps : SnapBounds → ℕ → Task → ℕ
most_steps bounds begun Absent = 0
most_steps bounds begun Idle = 0
most_steps bounds begun Placing = bounds.placing begun
most_steps bounds begun Scanning = bounds.scanning begun
most_steps bounds begun (Updating value) = bounds.scanning begun + 1

-- no step has returned a place of p, nor this place of any identity
pub record IsNewPlace (o : SnapObject) (p place : ℕ) : Type 0 where
  pub first : o.place p ≡ None
  pub free : (q : ℕ) → o.place q ≢ Some place

abbrev pub IsUpdating : Task → Type 0
IsUpdating (Updating value) = Unit {0}
IsUpdating t = ⊥

-- this step is one of those that the task may take
abbrev pub IsStepOf : SnapBounds → SnapObject → ℕ → Type 0
IsStepOf bounds o p = o.steps p + 1 ≤ most_steps bounds o.begun (o.task p)

-- the replies that a step may return. If the task goes on, steps of it are left, so that it ends
abbrev pub AllowsStep : SnapBounds → SnapObject → ℕ → SnapReply → Type 0
AllowsStep bounds o p Quiet = o.steps p + 1 < most_steps bounds o.begun (o.task p)
AllowsStep bounds o p (Placed place) = (o.task p ≡ Placing) × IsStepOf bounds o p × IsNewPlace o p place
AllowsStep bounds o p Written = IsUpdating (o.task p) × IsStepOf bounds o p
AllowsStep bounds o p (Viewed view) = (o.task p ≡ Scanning) × IsStepOf bounds o p × ShowsMoment o (since_of o p) view

abbrev pub has_begun : Task → Bool
has_begun Absent = false
has_begun t = true

module _ (bounds : SnapBounds) (o : SnapObject) (p : ℕ) where
  -- nothing of p is pending: its task takes no step. A way to a place that takes none counts as ended
  abbrev pub has_nothing_pending : Bool
  has_nothing_pending = most_steps bounds o.begun (o.task p) == 0

  -- the error that is due to each call of p: the first of these that holds
  abbrev pub begin_due : Option Refusal
  begin_due =
      if p == 0 then Some ZeroIdentity
      else if has_begun (o.task p) then Some AlreadyBegun
      else if nat_le bounds.most o.begun then Some Full
      else None

  abbrev pub scan_due : Option Refusal
  scan_due =
      if has_begun (o.task p) then (if has_nothing_pending then None else Some AlreadyBegun)
      else Some NotBegun

  abbrev pub update_due : Option Refusal
  update_due =
      if has_begun (o.task p) then (if has_nothing_pending then (if nat_lt (o.updates p) 1000000 then None else Some Spent) else Some AlreadyBegun)
      else Some NotBegun

  abbrev pub step_due : Option Refusal
  step_due =
      if has_begun (o.task p) then (if has_nothing_pending then Some Finished else None)
      else Some NotBegun

  -- a step on the way to a place, for which nothing else is due, may be refused because an allocation failed
  abbrev pub LacksMemory : Refusal → Type 0
  LacksMemory why = (why ≡ NoMemory) × (step_due ≡ None) × (o.task p ≡ Placing)

-- the replies that a call may return. It returns an error if and only if that error is due, failed allocations aside
abbrev pub Allows : SnapBounds → SnapObject → SnapCall → Type 0
Allows bounds o (Began p reply) = reply ≡ done_unless (begin_due bounds o p)
Allows bounds o (Updated p value reply) = reply ≡ done_unless (update_due bounds o p)
Allows bounds o (Scanned p reply) = reply ≡ done_unless (scan_due bounds o p)
Allows bounds o (Stepped p (Ok reply)) = AllowsStep bounds o p reply
Allows bounds o (Stepped p (Err why)) = (step_due bounds o p ≡ Some why) ⊎ LacksMemory bounds o p why

-- these calls with these replies are those of a snapshot object whose steps keep these bounds
abbrev pub SnapshotSpec : SnapBounds → List SnapCall → Type 0
SnapshotSpec bounds r = (o : SnapObject) × Run observed (Allows bounds) new_object r o

-- the bounds over these places, with this one on scans
abbrev pub bounds_over : {S R V U K : Type 0} → KnownPlaces S R V U K → S → (ℕ → ℕ) → SnapBounds
bounds_over t first scanning = record {
  most = t.most_of first;
  placing = t.ties.placing;
  scanning = scanning;
  collecting = t.ties.reads (t.most_of first) (t.most_of first);
}

-- every prefix of a list that satisfies the specification within these bounds satisfies it
abbrev pub HoldsOfPrefixes : SnapBounds → Type 0
HoldsOfPrefixes bounds = (r more : List SnapCall) → SnapshotSpec bounds (r ++ more) → SnapshotSpec bounds r
