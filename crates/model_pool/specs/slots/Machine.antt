-- slots as a machine
use Rattle.std.specs.Prelude.{◌≡◌, ◌≤◌, List, length}
use Rattle.model_steps.specs.Runs.{AnswersAsDue}
use Rattle.model_steps.specs.Machine.{Machine}
use Rattle.model_pool.specs.Machine.{next, IsReply}
use Rattle.model_pool.specs.Calls.Call.{Widened}
use Rattle.model_pool.specs.PoolState.{PoolStart}
use Rattle.model_pool.specs.Pool.{fresh_pool, number_answer}
use Rattle.model_pool.specs.slots.SlotsState.{SlotsState}
use Rattle.model_pool.specs.slots.SlotCalls.{SlotCall, OfPoolAlone}
use Rattle.model_pool.specs.slots.SlotCalls.SlotCall.{Pooled, Stored, Fetched, Extended}
use Rattle.model_pool.specs.slots.SlotsObject.{SlotAnswers, slots_after, fresh_slots}
use Rattle.model_pool.specs.slots.Law.{SlotsSpec}
use Rattle.model_pool.specs.slots.Slots.{stored_reply, IsFetched, after_put, after_extend}

-- the slots after a call
abbrev pub slots_next : {T : Type 0} → SlotsState T → SlotCall T → SlotsState T
slots_next s (Pooled h) = record s { pool = next s.pool h }
slots_next s (Stored id value reply) = after_put s id value
slots_next s (Fetched id reply) = s
slots_next s (Extended more value reply) = after_extend s more value

-- the reply is the one that the call gets
abbrev pub IsSlotReply : {T : Type 0} → SlotsState T → SlotCall T → Type 0
IsSlotReply s (Pooled h) = OfPoolAlone (IsReply s.pool) h
IsSlotReply s (Stored id value reply) = reply ≡ stored_reply (number_answer s.pool id)
IsSlotReply s (Fetched id reply) = IsFetched s.values (number_answer s.pool id) reply
IsSlotReply s (Extended more value reply) = IsReply s.pool (Widened more reply)

-- slots over a new pool of from 1 to 65,536 numbers, with as many values, and what they keep
abbrev pub slots : {T : Type 0} → Machine (PoolStart × List T) (SlotsState T) (SlotCall T)
slots = record {
  MayStart = λ first. (1 ≤ first.0.size) × (first.0.size ≤ first.0.most) × (first.0.most ≤ 65536) × (length first.1 ≡ first.0.size);
  first = λ first. record { pool = fresh_pool first.0; values = first.1 };
  next = slots_next;
  IsReply = IsSlotReply;
  Spec = λ first. SlotsSpec first.0 first.1;
  RefusesAsDue = λ first. AnswersAsDue slots_after SlotAnswers (fresh_slots first.0 first.1);
}
