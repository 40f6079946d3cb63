-- a desk over places of one kind goes on, event by event, and keeps the laws of its parts
use Rattle.std.proofs.Common.{◌≡◌, ℕ, zero, suc, ◌-◌, true, inl, inr, List, [], ◌∷◌, ◌++◌, map, replicate, Some, None, Result, Ok, Err, refl, sym, ap, subst, ◌∙◌, slice_get, slice_index}
use Rattle.text_worlds.specs.lemmas.desk.Common.{Refusal, Call, Began, Stepped, begin_refusal, done_unless, KnownPlaces, SnapBounds, StepReply, WorldKind, Entered, Probed, Sought, Left, SlotCall, Pooled, Stored, Fetched, Extended, Event, ShownReply, DeskState, IsDeskRun, desk_terms, Renamed, Slotted}
use Rattle.model_steps.specs.declared.refusal.Refusal.TheVariants as refusal
use Rattle.model_steps.specs.Machine.{Reaches}
use Rattle.model_steps.proofs.cited.MachineLemmas.{call_leads_on}
use Rattle.model_renaming.specs.Machine.{next, IsReply, renaming, SatisfiesSpecWithin}
use Rattle.model_asked.specs.Config.{is_tree}
use Rattle.model_renaming.specs.Law.{RenameSpec}
use Rattle.model_renaming.specs.RenameWorld.{rename_answer, step_refusal, may_lack}
use Rattle.model_pool.specs.Pool.{enter_answer, probe_answer, number_answer, widen_answer}
use Rattle.model_pool.specs.slots.Slots.{stored_reply, IsFetched}
use Rattle.model_pool.specs.slots.Machine.{slots, slots_next, IsSlotReply}
use Rattle.model_pool.proofs.cited.slots.SlotsKeep.{slots_law, slot_there}
use Rattle.model_asked.specs.declared.event.Event.TheVariants.{Begin, Step, Enter, Probe, Seek, Leave, Put, Get, Widen}
use Rattle.model_asked.specs.declared.reply.Reply.TheVariants as reply
use Rattle.text_worlds.specs.desk.DeskCalls.{DeskCall, rename_calls, slot_calls, exchange, exchange_of, BeginsSlots, BeginSlots, ReachesDesk, LeadsBy}
use Rattle.text_worlds.specs.desk.DeskRules.{fetched, call_for, next_over, reply_over, after_over, grows_over, grows_by, rules_over}
use Rattle.text_worlds.specs.desk.Rules.{may_by}
use Rattle.model_pool.specs.PoolState.{PoolStart}
use Rattle.model_pool.specs.Sought.{seek_answer}

-- one more call of renaming
rename_calls-renamed : (calls : List DeskCall) (h : Call StepReply) → rename_calls (calls ++ Renamed h ∷ []) ≡ rename_calls calls ++ h ∷ []
rename_calls-renamed [] h = refl
rename_calls-renamed (Renamed k ∷ calls) h = ap (λ xs. k ∷ xs) (rename_calls-renamed calls h)
rename_calls-renamed (Slotted k ∷ calls) h = rename_calls-renamed calls h

slot_calls-renamed : (calls : List DeskCall) (h : Call StepReply) → slot_calls (calls ++ Renamed h ∷ []) ≡ slot_calls calls
slot_calls-renamed [] h = refl
slot_calls-renamed (Renamed k ∷ calls) h = slot_calls-renamed calls h
slot_calls-renamed (Slotted k ∷ calls) h = ap (λ xs. k ∷ xs) (slot_calls-renamed calls h)

-- one more call of the slots
rename_calls-slotted : (calls : List DeskCall) (h : SlotCall ℕ) → rename_calls (calls ++ Slotted h ∷ []) ≡ rename_calls calls
rename_calls-slotted [] h = refl
rename_calls-slotted (Renamed k ∷ calls) h = ap (λ xs. k ∷ xs) (rename_calls-slotted calls h)
rename_calls-slotted (Slotted k ∷ calls) h = rename_calls-slotted calls h

slot_calls-slotted : (calls : List DeskCall) (h : SlotCall ℕ) → slot_calls (calls ++ Slotted h ∷ []) ≡ slot_calls calls ++ h ∷ []
slot_calls-slotted [] h = refl
slot_calls-slotted (Renamed k ∷ calls) h = slot_calls-slotted calls h
slot_calls-slotted (Slotted k ∷ calls) h = ap (λ xs. k ∷ xs) (slot_calls-slotted calls h)

-- one more call of slots that are 0 when they are new
begin_more : (r : List (SlotCall ℕ)) (h : SlotCall ℕ) → BeginSlots r → BeginsSlots h → BeginSlots (r ++ h ∷ [])
begin_more [] h all own = (own, tt)
begin_more (k ∷ r) h all own = (all.0, begin_more r h all.1 own)

-- what is found at a place is what stands there
index_of-get : (xs : List ℕ) (i v : ℕ) → slice_get xs i ≡ Some v → slice_index xs i ≡ v
index_of-get [] i v h = absurd (cc)
index_of-get (x ∷ xs) zero v h = cc
index_of-get (x ∷ xs) (suc i) v h = index_of-get xs i v h

module _ {S R V U K : Type 0} (W : KnownPlaces S R V U K) (kind : WorldKind) (most limit : ℕ) (start : PoolStart) (w : DeskState S U K) (calls : List DeskCall) (a : ReachesDesk W kind most limit start w calls) where
  renamed_after : (h : Call StepReply) → IsReply W w.names h → ReachesDesk W kind most limit start (next_over W w (Renamed h)) (calls ++ Renamed h ∷ [])
  renamed_after h is = record {
    first = a.first;
    room = a.room;
    names = subst (λ (xs : List (Call StepReply)). Reaches (renaming W kind) (a.first, limit) (next W w.names h) xs) (sym (rename_calls-renamed calls h))
        (call_leads_on (renaming W kind) w.names (next W w.names h) h refl is (a.first, limit) (rename_calls calls) a.names);
    slots = subst (λ (xs : List (SlotCall ℕ)). Reaches slots (start, replicate start.size 0) w.slots xs) (sym (slot_calls-renamed calls h)) a.slots;
    new_slots = subst (λ (xs : List (SlotCall ℕ)). BeginSlots xs) (sym (slot_calls-renamed calls h)) a.new_slots;
  }

  slotted_after : (h : SlotCall ℕ) → IsSlotReply w.slots h → BeginsSlots h → ReachesDesk W kind most limit start (next_over W w (Slotted h)) (calls ++ Slotted h ∷ [])
  slotted_after h is new = record {
    first = a.first;
    room = a.room;
    names = subst (λ (xs : List (Call StepReply)). Reaches (renaming W kind) (a.first, limit) w.names xs) (sym (rename_calls-slotted calls h)) a.names;
    slots = subst (λ (xs : List (SlotCall ℕ)). Reaches slots (start, replicate start.size 0) (slots_next w.slots h) xs) (sym (slot_calls-slotted calls h))
        (call_leads_on slots w.slots (slots_next w.slots h) h refl is (start, replicate start.size 0) (slot_calls calls) a.slots);
    new_slots = subst (λ (xs : List (SlotCall ℕ)). BeginSlots xs) (sym (slot_calls-slotted calls h)) (begin_more (slot_calls calls) h a.new_slots new);
  }

  -- what a holder gets stands in its slot
  fetched_is : (p : ℕ) (held : Result ℕ Refusal) → number_answer w.slots.pool p ≡ held → IsFetched w.slots.values held (fetched w.slots.values held)
  fetched_is p (Ok n) holds =
      let there = slot_there w.slots p n holds (start, replicate start.size 0) (slot_calls calls) a.slots in
      there.1 ∙ ap Some (sym (index_of-get w.slots.values (n - 1) there.0 there.1))
  fetched_is p (Err why) holds = refl

  -- the call that an event is leads on
  call_after : (e : Event) → ReachesDesk W kind most limit start (after_over W w e) (calls ++ call_for W w e ∷ [])
  call_after (Begin p) = renamed_after (Began p (done_unless (begin_refusal w.names.snap p))) refl
  call_after (Step p) = renamed_after (Stepped p (rename_answer W w.names p)) (inl refl)
  call_after (Enter p) = slotted_after (Pooled (Entered p (enter_answer w.slots.pool p))) refl tt
  call_after (Probe p) = slotted_after (Pooled (Probed p (probe_answer w.slots.pool p))) refl tt
  call_after (Seek p) = slotted_after (Pooled (Sought p (seek_answer w.slots.pool p))) refl tt
  call_after (Leave p) = slotted_after (Pooled (Left p (number_answer w.slots.pool p))) refl tt
  call_after (Put p value) = slotted_after (Stored p value (stored_reply (number_answer w.slots.pool p))) refl tt
  call_after (Get p) = slotted_after (Fetched p (fetched w.slots.values (number_answer w.slots.pool p))) (fetched_is p (number_answer w.slots.pool p) refl) tt
  call_after (Widen more) = slotted_after (Extended more 0 (widen_answer w.slots.pool more)) refl refl

  -- and is of that event
  call_spelled : (e : Event) → exchange_of (call_for W w e) ≡ exchange e (reply_over W w e)
  call_spelled (Begin p) = refl
  call_spelled e = refl

  -- a step for which a growth was refused is a call too
  lacking : (p : ℕ) → grows_over W w (Step p) ≡ true → ReachesDesk W kind most limit start w (calls ++ Renamed (Stepped p (Err refusal.NoMemory)) ∷ [])
  lacking p h = elim (step_refusal w.names p) as (λ o. step_refusal w.names p ≡ o → grows_by o (may_lack W w.names p) ≡ true → ReachesDesk W kind most limit start w (calls ++ Renamed (Stepped p (Err refusal.NoMemory)) ∷ [])) [
    | None ↦ λ none may. renamed_after (Stepped p (Err refusal.NoMemory)) (inr (refl, (none, may)))
    | Some why ↦ λ some may. absurd (cc)
  ] refl h

  lack_leads : (e : Event) → grows_over W w e ≡ true → LeadsBy W kind most limit start calls e (reply.Refused refusal.NoMemory) w
  lack_leads (Step p) h = record { call = Renamed (Stepped p (Err refusal.NoMemory)); spelled = refl; after = lacking p h }
  lack_leads e h = absurd (cc)

  -- so calls lead on by whatever a desk may answer
  pub goes_on : (e : Event) (r : ShownReply) (u : DeskState S U K) → may_by (rules_over W) w e r u → LeadsBy W kind most limit start calls e r u
  goes_on e r u (inl m) = record {
    call = call_for W w e;
    spelled = call_spelled e ∙ ap (λ (x : ShownReply). exchange e x) (sym m.0);
    after = subst (λ (x : DeskState S U K). ReachesDesk W kind most limit start x (calls ++ call_for W w e ∷ [])) (sym m.1) (call_after e);
  }
  goes_on e r u (inr m) =
      subst (λ (x : DeskState S U K). LeadsBy W kind most limit start calls e r x) (sym m.1)
      (subst (λ (x : ShownReply). LeadsBy W kind most limit start calls e x w) (sym m.0) (lack_leads e m.2))

-- the exchanges of a desk's calls are a run, where its renaming world keeps the law within these bounds
unfoldable pub is_run : {S R V U K : Type 0} (W : KnownPlaces S R V U K) (kind : WorldKind) (bounds : ℕ → SnapBounds) (most limit : ℕ) (start : PoolStart) (w : DeskState S U K) (calls : List DeskCall) →
    SatisfiesSpecWithin W kind bounds w.names → ReachesDesk W kind most limit start w calls → IsDeskRun (desk_terms most limit (is_tree kind)) (bounds most) start (map exchange_of calls)
is_run W kind bounds most limit start w calls lawful a = record {
  calls = calls;
  spelled = refl;
  names = subst (λ (m : ℕ). RenameSpec (desk_terms m limit (is_tree kind)) (bounds m) (rename_calls calls)) a.room (lawful (a.first, limit) (rename_calls calls) a.names);
  slots = slots_law w.slots (start, replicate start.size 0) (slot_calls calls) a.slots;
  new_slots = a.new_slots;
}
