-- a renaming world and slots over a pool, side by side: their calls, and the exchanges that these are
use Rattle.std.specs.Prelude.{◌≡◌, ℕ, List, [], ◌∷◌, ◌++◌, replicate}
use Rattle.model_steps.specs.Calls.{Call}
use Rattle.model_steps.specs.Calls.Call.{Began, Stepped}
use Rattle.model_snapshot.specs.Places.{KnownPlaces}
use Rattle.model_renaming.specs.Reply.{StepReply}
use Rattle.model_asked.specs.declared.kind.WorldKind.{WorldKind}
use Rattle.model_renaming.specs.Machine.{renaming}
use Rattle.model_steps.specs.Machine.{Reaches}
use Rattle.model_pool.specs.Calls.Call.{Entered, Probed, Sought, Left, Widened}
use Rattle.model_pool.specs.PoolState.{PoolStart}
use Rattle.model_pool.specs.slots.SlotCalls.{SlotCall}
use Rattle.model_pool.specs.slots.SlotCalls.SlotCall.{Pooled, Stored, Fetched, Extended}
use Rattle.model_pool.specs.slots.Machine.{slots}
use Rattle.model_asked.specs.declared.event.Event.{Event}
use Rattle.model_asked.specs.declared.event.Event.TheVariants as event
use Rattle.model_asked.specs.declared.exchange.Exchange.{Exchange}
use Rattle.model_asked.specs.Replies.{ShownReply, done_reply, left_reply, value_reply}
use Rattle.text_worlds.specs.desk.Replies.{step_reply, probe_reply, seek_reply}
use Rattle.text_worlds.specs.desk.DeskState.{DeskState}

-- a call of the renaming world, or of the slots, with its reply
pub data DeskCall : Type 0 where
  Renamed : Call StepReply → DeskCall
  Slotted : SlotCall ℕ → DeskCall

-- the calls of the renaming world among them
abbrev pub rename_calls : List DeskCall → List (Call StepReply)
rename_calls [] = []
rename_calls (Renamed h ∷ calls) = h ∷ rename_calls calls
rename_calls (Slotted h ∷ calls) = rename_calls calls

-- and those of the slots
abbrev pub slot_calls : List DeskCall → List (SlotCall ℕ)
slot_calls [] = []
slot_calls (Renamed h ∷ calls) = slot_calls calls
slot_calls (Slotted h ∷ calls) = h ∷ slot_calls calls

abbrev pub exchange : Event → ShownReply → Exchange
exchange e r = record { event = e; reply = r }

-- the exchange that a call is
abbrev pub exchange_of : DeskCall → Exchange
exchange_of (Renamed (Began p answer)) = exchange (event.Begin p) (done_reply answer)
exchange_of (Renamed (Stepped p answer)) = exchange (event.Step p) (step_reply answer)
exchange_of (Slotted (Pooled (Entered p answer))) = exchange (event.Enter p) (done_reply answer)
exchange_of (Slotted (Pooled (Probed p answer))) = exchange (event.Probe p) (probe_reply answer)
exchange_of (Slotted (Pooled (Sought p answer))) = exchange (event.Seek p) (seek_reply answer)
exchange_of (Slotted (Pooled (Left p answer))) = exchange (event.Leave p) (left_reply answer)
exchange_of (Slotted (Stored p value answer)) = exchange (event.Put p value) (done_reply answer)
exchange_of (Slotted (Fetched p answer)) = exchange (event.Get p) (value_reply answer)
exchange_of (Slotted (Pooled (Widened more answer))) = exchange (event.Widen more) (done_reply answer)
exchange_of (Slotted (Extended more value answer)) = exchange (event.Widen more) (done_reply answer)

-- where the call is a widening each new slot holds 0: the exchange does not show the value
abbrev pub BeginsSlots : SlotCall ℕ → Type 0
BeginsSlots (Extended more value answer) = value ≡ 0
BeginsSlots s = Unit {0}

-- so it is of each of these calls
abbrev pub BeginSlots : List (SlotCall ℕ) → Type 0
BeginSlots [] = Unit {0}
BeginSlots (h ∷ r) = BeginsSlots h × BeginSlots r

-- these calls lead to the desk, with these bounds on participants and rounds, from a pool that begins so. The calls of
-- renaming lead to its renaming world, and the others to its slots, each of which holds 0 when it is new
pub record ReachesDesk {S R V U K : Type 0} (W : KnownPlaces S R V U K) (kind : WorldKind) (most limit : ℕ) (start : PoolStart) (w : DeskState S U K) (calls : List DeskCall) : Type 0 where
  pub first : S
  pub room : W.most_of first ≡ most
  pub names : Reaches (renaming W kind) (first, limit) w.names (rename_calls calls)
  pub slots : Reaches slots (start, replicate start.size 0) w.slots (slot_calls calls)
  pub new_slots : BeginSlots (slot_calls calls)

-- these calls, and then one call that is this exchange, lead to this desk
pub record LeadsBy {S R V U K : Type 0} (W : KnownPlaces S R V U K) (kind : WorldKind) (most limit : ℕ) (start : PoolStart) (calls : List DeskCall) (e : Event) (r : ShownReply) (new : DeskState S U K) : Type 0 where
  pub call : DeskCall
  pub spelled : exchange_of call ≡ exchange e r
  pub after : ReachesDesk W kind most limit start new (calls ++ call ∷ [])
