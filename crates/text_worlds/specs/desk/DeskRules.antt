-- the reply of a desk over places of one kind to an event, and the desk after it
use Rattle.std.specs.Prelude.{ℕ, ◌-◌, Bool, false, List, Option, Some, None, Result, Ok, Err, slice_index, replicate}
use Rattle.model_steps.specs.declared.refusal.Refusal.{Refusal}
use Rattle.model_steps.specs.Calls.Call.{Began, Stepped}
use Rattle.model_steps.specs.World.{begin_refusal, done_unless}
use Rattle.model_snapshot.specs.Places.{KnownPlaces}
use Rattle.model_renaming.specs.Machine.{next}
use Rattle.model_renaming.specs.RenameWorld.{fresh_world, rename_answer, step_refusal, may_lack}
use Rattle.model_pool.specs.Pool.{enter_refusal, enter_answer, probe_refusal, probe_answer, number_answer, widen_answer, fresh_pool}
use Rattle.model_pool.specs.Sought.{seek_answer}
use Rattle.model_pool.specs.Widening.{widen_refusal}
use Rattle.model_pool.specs.PoolState.{PoolStart}
use Rattle.model_pool.specs.Calls.Call.{Entered, Probed, Sought, Left}
use Rattle.model_pool.specs.slots.SlotCalls.SlotCall.{Pooled, Stored, Fetched, Extended}
use Rattle.model_pool.specs.slots.Slots.{stored_reply}
use Rattle.model_pool.specs.slots.Machine.{slots_next}
use Rattle.model_asked.specs.declared.event.Event.{Event}
use Rattle.model_asked.specs.declared.event.Event.TheVariants.{Begin, Step, Enter, Probe, Seek, Leave, Put, Get, Widen}
use Rattle.model_asked.specs.Replies.{ShownReply}
use Rattle.text_worlds.specs.desk.DeskCalls.{DeskCall, exchange_of}
use Rattle.text_worlds.specs.desk.DeskCalls.DeskCall.{Renamed, Slotted}
use Rattle.text_worlds.specs.desk.DeskState.{DeskState}
use Rattle.text_worlds.specs.desk.Rules.{Rules}

-- the value that a holder of this number gets, or why there is none
abbrev pub fetched : List ℕ → Result ℕ Refusal → Result ℕ Refusal
fetched values (Ok number) = Ok (slice_index values (number - 1))
fetched values (Err why) = Err why

-- why an identity holds no number, if it holds none
abbrev pub refusal_of : Result ℕ Refusal → Option Refusal
refusal_of (Ok number) = None
refusal_of (Err why) = Some why

-- an allocation may fail only if no refusal is due
abbrev pub grows_by : Option Refusal → Bool → Bool
grows_by None may = may
grows_by (Some why) may = false

module _ {S U K : Type 0} where
  -- a desk over these places before any call, for this many participants and rounds, whose pool begins so. Each slot holds 0
  abbrev pub fresh_over : S → ℕ → ℕ → PoolStart → DeskState S U K
  fresh_over first most limit start = record {
    names = fresh_world first most limit;
    slots = record { pool = fresh_pool start; values = replicate start.size 0 };
  }

  -- why an event would be refused, failed allocations aside
  abbrev pub refusal_over : DeskState S U K → Event → Option Refusal
  refusal_over w (Begin p) = begin_refusal w.names.snap p
  refusal_over w (Step p) = step_refusal w.names p
  refusal_over w (Enter p) = enter_refusal w.slots.pool p
  refusal_over w (Probe p) = probe_refusal w.slots.pool p
  refusal_over w (Seek p) = probe_refusal w.slots.pool p
  refusal_over w (Leave p) = refusal_of (number_answer w.slots.pool p)
  refusal_over w (Put p value) = refusal_of (number_answer w.slots.pool p)
  refusal_over w (Get p) = refusal_of (number_answer w.slots.pool p)
  refusal_over w (Widen more) = widen_refusal w.slots.pool.most w.slots.pool.size more

module _ {S R V U K : Type 0} (W : KnownPlaces S R V U K) where
  -- the call that an event is, with its reply if no allocation fails
  abbrev pub call_for : DeskState S U K → Event → DeskCall
  call_for w (Begin p) = Renamed (Began p (done_unless (begin_refusal w.names.snap p)))
  call_for w (Step p) = Renamed (Stepped p (rename_answer W w.names p))
  call_for w (Enter p) = Slotted (Pooled (Entered p (enter_answer w.slots.pool p)))
  call_for w (Probe p) = Slotted (Pooled (Probed p (probe_answer w.slots.pool p)))
  call_for w (Seek p) = Slotted (Pooled (Sought p (seek_answer w.slots.pool p)))
  call_for w (Leave p) = Slotted (Pooled (Left p (number_answer w.slots.pool p)))
  call_for w (Put p value) = Slotted (Stored p value (stored_reply (number_answer w.slots.pool p)))
  call_for w (Get p) = Slotted (Fetched p (fetched w.slots.values (number_answer w.slots.pool p)))
  call_for w (Widen more) = Slotted (Extended more 0 (widen_answer w.slots.pool more))

  -- the desk after a call
  abbrev pub next_over : DeskState S U K → DeskCall → DeskState S U K
  next_over w (Renamed h) = record { names = next W w.names h; slots = w.slots }
  next_over w (Slotted h) = record { names = w.names; slots = slots_next w.slots h }

  -- the reply to an event, if no allocation fails, and the desk after it
  abbrev pub reply_over : DeskState S U K → Event → ShownReply
  reply_over w e = (exchange_of (call_for w e)).reply

  abbrev pub after_over : DeskState S U K → Event → DeskState S U K
  after_over w e = next_over w (call_for w e)

  -- whether an allocation may fail instead
  abbrev pub grows_over : DeskState S U K → Event → Bool
  grows_over w (Step p) = grows_by (step_refusal w.names p) (may_lack W w.names p)
  grows_over w e = false

  abbrev pub rules_over : Rules (DeskState S U K)
  rules_over = record { reply = reply_over; after = after_over; grows = grows_over }
