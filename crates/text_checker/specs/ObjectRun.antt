-- What exchanges the objects can make, counts of steps aside: the renaming object (the problem: Attiya et al. 1990), the pool
-- (Moir and Anderson 1995) and the slots, begun fresh, can answer each event with its reply, in order
use Rattle.std.specs.Prelude.{◌≡◌, ◌⊎◌, ℕ, true, List, map, replicate, Some, None, Ok, Err}
use Rattle.model_steps.specs.Calls.{Call}
use Rattle.model_steps.specs.Calls.Call.{Began, Stepped}
use Rattle.model_steps.specs.Runs.{Run}
use Rattle.model_steps.specs.World.{done_unless}
use Rattle.model_steps.specs.declared.refusal.Refusal.{Refusal}
use Rattle.model_steps.specs.declared.refusal.Refusal.TheVariants.{NoMemory}
use Rattle.model_renaming.specs.Reply.{StepReply}
use Rattle.model_renaming.specs.RenameObject.{RenameTerms, RenameObject, new_object, no_begin, no_step, AllowsStep, after}
use Rattle.model_pool.specs.PoolState.{PoolStart}
use Rattle.model_pool.specs.slots.SlotsObject.{SlotsObject, fresh_slots, SlotAnswers, slots_after}
use Rattle.model_asked.specs.declared.exchange.Exchange.{Exchange}
use Rattle.text_worlds.specs.desk.DeskCalls.{DeskCall, exchange_of, BeginsSlots}
use Rattle.text_worlds.specs.desk.DeskCalls.DeskCall.{Renamed, Slotted}

-- the renaming object, and the slots with their pool
pub record DeskObject : Type 0 where
  pub names : RenameObject
  pub slots : SlotsObject ℕ

-- nothing was done, and the pool begins so; each slot holds 0
abbrev pub fresh_desk_object : PoolStart → DeskObject
fresh_desk_object start = record { names = new_object; slots = fresh_slots start (replicate start.size 0) }

-- a growth may be refused to a step where the world grows and no other refusal is due
pub record MayLackMemory (terms : RenameTerms) (o : RenameObject) (p : ℕ) (why : Refusal) : Type 0 where
  pub is : why ≡ NoMemory
  pub grows : terms.grows ≡ true
  pub none_due : no_step o p ≡ None

-- the reply is one that the renaming object may give to the call
abbrev pub AllowsRenaming : RenameTerms → RenameObject → Call StepReply → Type 0
AllowsRenaming terms o (Began p reply) = reply ≡ done_unless (no_begin terms o p)
AllowsRenaming terms o (Stepped p (Ok reply)) = (no_step o p ≡ None) × AllowsStep terms o p reply
AllowsRenaming terms o (Stepped p (Err why)) = (no_step o p ≡ Some why) ⊎ MayLackMemory terms o p why

-- the reply is one that the objects may give to the call, and each new slot holds 0
abbrev pub AllowsCall : RenameTerms → DeskObject → DeskCall → Type 0
AllowsCall terms o (Renamed h) = AllowsRenaming terms o.names h
AllowsCall terms o (Slotted h) = SlotAnswers o.slots h × BeginsSlots h

-- the objects after a call
abbrev pub after_call : DeskObject → DeskCall → DeskObject
after_call o (Renamed h) = record { names = after o.names h; slots = o.slots }
after_call o (Slotted h) = record { names = o.names; slots = slots_after o.slots h }

-- the objects, begun fresh, may answer these calls so, and are then in this state
abbrev pub AreCallsOf : RenameTerms → PoolStart → List DeskCall → DeskObject → Type 0
AreCallsOf terms start calls o = Run after_call (AllowsCall terms) (fresh_desk_object start) calls o

-- the objects, begun fresh, can answer each event with its reply, in order
pub record IsObjectRun (terms : RenameTerms) (start : PoolStart) (r : List Exchange) : Type 0 where
  pub calls : List DeskCall
  pub spelled : map exchange_of calls ≡ r
  pub object : DeskObject
  pub run : AreCallsOf terms start calls object
