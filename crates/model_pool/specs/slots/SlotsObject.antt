-- a pool object and a value for each of its numbers
use Rattle.std.specs.Prelude.{◌≡◌, List}
use Rattle.model_steps.specs.Runs.{Run}
use Rattle.model_pool.specs.PoolState.{PoolStart}
use Rattle.model_pool.specs.Calls.Call.{Widened}
use Rattle.model_pool.specs.PoolObject.{PoolObject, fresh_object, Answers, after, number_in}
use Rattle.model_pool.specs.slots.SlotCalls.{SlotCall, OfPoolAlone}
use Rattle.model_pool.specs.slots.SlotCalls.SlotCall.{Pooled, Stored, Fetched, Extended}
use Rattle.model_pool.specs.slots.Slots.{stored_reply, stored_in, IsFetched, extended_in}

-- the pool, and the values: that of number n is at place n - 1
pub record SlotsObject (T : Type 0) : Type 0 where
  pub pool : PoolObject
  pub values : List T

-- the object that begins so, in which no one competes, with these values
abbrev pub fresh_slots : {T : Type 0} → PoolStart → List T → SlotsObject T
fresh_slots start values = record { pool = fresh_object start; values = values }

-- the reply is one that the object may give to the call
abbrev pub SlotAnswers : {T : Type 0} → SlotsObject T → SlotCall T → Type 0
SlotAnswers o (Pooled h) = OfPoolAlone (Answers o.pool) h
SlotAnswers o (Stored p value reply) = reply ≡ stored_reply (number_in o.pool p)
SlotAnswers o (Fetched p reply) = IsFetched o.values (number_in o.pool p) reply
SlotAnswers o (Extended more value reply) = Answers o.pool (Widened more reply)

-- the object after a call: a value stays until a holder of its number puts another, and a new slot begins with the value
-- that the widening says
abbrev pub slots_after : {T : Type 0} → SlotsObject T → SlotCall T → SlotsObject T
slots_after o (Pooled h) = record o { pool = after o.pool h }
slots_after o (Stored p value reply) = record o { values = stored_in (number_in o.pool p) value o.values }
slots_after o (Fetched p reply) = o
slots_after o (Extended more value reply) = record { pool = after o.pool (Widened more reply); values = extended_in reply more value o.values }

-- the object, begun so with these values, may answer these calls so, and is then in that state
abbrev pub IsSlotsRun : {T : Type 0} → PoolStart → List T → List (SlotCall T) → SlotsObject T → Type 0
IsSlotsRun start values r o = Run slots_after SlotAnswers (fresh_slots start values) r o
