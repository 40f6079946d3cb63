-- what a desk may answer, with its counts of steps, the objects can answer
use Rattle.std.proofs.Common.{ℕ, Bool, inl, inr, List, [], ◌∷◌, map, refl, Ok, Err}
use Rattle.text_checker.proofs.Common.{Began, Stepped, Run, StepReply, PoolStart, Exchange, Renamed, Slotted}
use Rattle.model_steps.specs.Calls.{Call}
use Rattle.model_snapshot.specs.Snapshot.{SnapBounds}
use Rattle.model_renaming.specs.RenameObject.{RenameTerms, RenameObject, Allows, after}
use Rattle.model_pool.specs.slots.SlotsObject.{SlotsObject, SlotAnswers, slots_after}
use Rattle.text_worlds.specs.desk.DeskCalls.{DeskCall, rename_calls, slot_calls, BeginSlots}
use Rattle.text_worlds.specs.desk.DeskRun.{IsDeskRun}
use Rattle.text_records.specs.Lines.{line_of, AreLinesOf}
use Rattle.text_checker.specs.ObjectRun.{AllowsRenaming, AllowsCall, after_call, IsObjectRun}

-- where a desk lacks memory, the objects may
allowed : (terms : RenameTerms) (o : RenameObject) (h : Call StepReply) → Allows terms o h → AllowsRenaming terms o h
allowed terms o (Began p reply) a = a
allowed terms o (Stepped p (Ok reply)) a = a
allowed terms o (Stepped p (Err why)) a = elim a [ inl due ↦ inl due | inr lacks ↦ inr (record { is = lacks.is; grows = lacks.grows; none_due = lacks.none_due }) ]

-- a run of the names and one of the slots, each 0 when it is new, are one of both
joined : (terms : RenameTerms) (calls : List DeskCall) (names names' : RenameObject) (slots slots' : SlotsObject ℕ) → Run after (Allows terms) names (rename_calls calls) names' →
    Run slots_after SlotAnswers slots (slot_calls calls) slots' → BeginSlots (slot_calls calls) → Run after_call (AllowsCall terms) (record { names = names; slots = slots }) calls (record { names = names'; slots = slots' })
joined terms [] names names' slots slots' r s new = λ i. record { names = r i; slots = s i }
joined terms (Renamed h ∷ calls) names names' slots slots' r s new = (allowed terms names h r.0, joined terms calls (after names h) names' slots slots' r.1 s new)
joined terms (Slotted h ∷ calls) names names' slots slots' r s new = ((s.0, new.0), joined terms calls names names' (slots_after slots h) slots' r s.1 new.1)

pub desk_run : (terms : RenameTerms) (bounds : SnapBounds) (start : PoolStart) (r : List Exchange) → IsDeskRun terms bounds start r → IsObjectRun terms start r
desk_run terms bounds start r d = record {
  calls = d.calls;
  spelled = d.spelled;
  object = record { names = d.names.object; slots = d.slots.object };
  run = joined terms d.calls _ d.names.object _ d.slots.object d.names.run d.slots.run d.new_slots;
}

-- exchanges have their lines, told in full or not
pub lines_of_all : (shows : Bool) (r : List Exchange) → AreLinesOf r (map (line_of shows) r)
lines_of_all shows [] = tt
lines_of_all shows (x ∷ xs) = (record { shows = shows; spelled = refl }, lines_of_all shows xs)
