-- each call of slots keeps the law
use Rattle.std.proofs.Common.{◌≡◌, ℕ, zero, suc, ◌-◌, ◌≤◌, ◌<◌, true, false, not, cond, List, [], ◌∷◌, ◌++◌, Some, None, Ok, Err, Result, length, replicate, refl, sym, ap, subst, ◌∙◌, arith, slice_get, ok_or}
use Rattle.model_pool.proofs.slots_lemmas.Common.{Refusal, done_unless, widen_refusal, SlotsState, Pooled, Stored, Fetched, Extended, slot, stored_reply, stored_in, IsFetched, after_put, extended_in, after_extend}
use Rattle.model_steps.specs.declared.refusal.Refusal.TheVariants.{NotCompeting, NotHolding}
use Rattle.std.proofs.lemmas.List.{append-nil, length-set, length-append, length-replicate}
use Rattle.model_steps.proofs.cited.RunLemmas.{run_more, run_one, run_splits, run_answers}
use Rattle.model_pool.specs.Pool.{fresh_pool, number_answer, widen_answer, after_widen}
use Rattle.model_pool.specs.PoolState.{PoolStart, PoolState}
use Rattle.model_pool.specs.declared.probe.Probe.TheVariants.{Missed}
use Rattle.model_pool.specs.Calls.{Call}
use Rattle.model_pool.specs.Calls.Call.{Entered, Probed, Sought, Left, Widened}
use Rattle.model_pool.specs.PoolObject.{PoolObject, competes, fresh_object, Answers, after, number_in, IsRun}
use Rattle.model_pool.specs.Machine.{next, IsReply, pool}
use Rattle.model_steps.specs.Machine.{Reaches, OnEveryHistory, SatisfiesSpec, RefusesWhereDue, IsProved}
use Rattle.model_steps.proofs.cited.MachineLemmas.{always_by, machine_proved}
use Rattle.model_pool.proofs.cited.PoolKeeps.{pool_proved, number_after}
use Rattle.model_pool.specs.slots.SlotCalls.{SlotCall, pool_calls, OfPoolAlone}
use Rattle.model_pool.specs.slots.SlotsObject.{SlotsObject, fresh_slots, SlotAnswers, slots_after, IsSlotsRun}
use Rattle.model_pool.specs.slots.Machine.{slots, slots_next, IsSlotReply}
use Rattle.model_pool.proofs.slots_lemmas.SlotLemmas.{wider}

-- the pool's part of two lists, one after the other
pool_calls-append : {T : Type 0} (r t : List (SlotCall T)) → pool_calls (r ++ t) ≡ pool_calls r ++ pool_calls t
pool_calls-append [] t = refl
pool_calls-append (Pooled h ∷ r) t = ap (λ xs. h ∷ xs) (pool_calls-append r t)
pool_calls-append (Stored p v reply ∷ r) t = pool_calls-append r t
pool_calls-append (Fetched p reply ∷ r) t = pool_calls-append r t
pool_calls-append (Extended more v reply ∷ r) t = ap (λ xs. Widened more reply ∷ xs) (pool_calls-append r t)

-- a call in which the pool has no part
pool_calls-other : {T : Type 0} (r : List (SlotCall T)) (h : SlotCall T) → pool_calls (h ∷ []) ≡ [] → pool_calls (r ++ h ∷ []) ≡ pool_calls r
pool_calls-other r h none = pool_calls-append r (h ∷ []) ∙ ap (λ xs. pool_calls r ++ xs) none ∙ append-nil (pool_calls r)

-- `put` keeps as many slots
length-stored_in : {T : Type 0} (held : Result ℕ Refusal) (value : T) (values : List T) → length (stored_in held value values) ≡ length values
length-stored_in (Ok number) value values = length-set values (number - 1) value
length-stored_in (Err refusal) value values = refl

-- the pool after its part of the calls, and the object that may have given the same replies
record Stands {T : Type 0} (size : PoolStart) (first : List T) (s : SlotsState T) (r : List (SlotCall T)) : Type 0 where
  object : SlotsObject T
  run : IsSlotsRun size first r object
  pool : Reaches pool size s.pool (pool_calls r)
  pool_run : IsRun size (pool_calls r) object.pool
  values : object.values ≡ s.values
  many : length object.values ≡ object.pool.size

-- a call of the pool alone keeps its size
size_kept : (w : PoolState) (o : PoolObject) (h : Call) → OfPoolAlone (IsReply w) h → (after o h).size ≡ o.size
size_kept w o (Entered p (Ok done)) is = refl
size_kept w o (Probed p (Ok Missed)) is = refl
size_kept w o (Sought p (Ok n)) is = refl
size_kept w o (Left p (Ok n)) is = refl
size_kept w o (Widened more reply) is = absurd is
size_kept w o h is = refl

-- its reply is that of the pool
pool_reply : (w : PoolState) (h : Call) → OfPoolAlone (IsReply w) h → IsReply w h
pool_reply w (Widened more reply) is = absurd is
pool_reply w h is = is

pool_answers : (w : PoolState) (o : PoolObject) (h : Call) → OfPoolAlone (IsReply w) h → Answers o h → OfPoolAlone (Answers o) h
pool_answers w o (Widened more reply) is right = absurd is
pool_answers w o h is right = right

-- there are as many values as numbers after a widening too
many_extended : {T : Type 0} (o : PoolObject) (more : ℕ) (value : T) (values : List T) (reply : Result (Unit {0}) Refusal) → length values ≡ o.size → reply ≡ done_unless (widen_refusal o.most o.size more) →
    length (extended_in reply more value values) ≡ (after o (Widened more reply)).size
many_extended o more value values (Err refusal) many is = many
many_extended o more value values (Ok done) many is =
    omega (arith, length-append values (replicate (more - length values) value), length-replicate (more - length values) value, wider o.most o.size more done is, many)

module _ {T : Type 0} (size : PoolStart) (first : List T) (s : SlotsState T) (r : List (SlotCall T)) (t : Stands size first s r) where
  -- the object goes on by a call
  gone_on : (h : SlotCall T) → SlotAnswers t.object h → IsSlotsRun size first (r ++ h ∷ []) (slots_after t.object h)
  gone_on h is = run_more slots_after SlotAnswers (fresh_slots size first) r t.object h t.run is

  held_is : (p : ℕ) → number_answer s.pool p ≡ number_in t.object.pool p
  held_is p = number_after size s.pool (pool_calls r) t.object.pool t.pool t.pool_run p

  -- the pool and its object go on by a call of the pool
  pool_on : (h : Call) → IsReply s.pool h → Reaches pool size (next s.pool h) (pool_calls r ++ h ∷ [])
  pool_on h is = pool_proved.call s.pool (next s.pool h) h refl is size (pool_calls r) t.pool

  pool_right : (h : Call) → IsReply s.pool h → Answers t.object.pool h
  pool_right h is =
      let law = pool_proved.law (next s.pool h) size (pool_calls r ++ h ∷ []) (pool_on h is) in
      let l = run_splits after Answers (fresh_object size) (pool_calls r) (h ∷ []) law.object law.run in
      let same : l.0 ≡ t.object.pool = run_one after Answers (fresh_object size) (pool_calls r) l.0 t.object.pool l.1 t.pool_run in
      subst (λ (x : PoolObject). Answers x h) same l.2.0

  pool_run_on : (h : Call) → IsReply s.pool h → IsRun size (pool_calls r ++ h ∷ []) (after t.object.pool h)
  pool_run_on h is = run_more after Answers (fresh_object size) (pool_calls r) t.object.pool h t.pool_run (pool_right h is)

  pooled_keeps : (h : Call) → OfPoolAlone (IsReply s.pool) h → Stands size first (record s { pool = next s.pool h }) (r ++ Pooled h ∷ [])
  pooled_keeps h own =
      let is : IsReply s.pool h = pool_reply s.pool h own in
      record {
        object = slots_after t.object (Pooled h);
        run = gone_on (Pooled h) (pool_answers s.pool t.object.pool h own (pool_right h is));
        pool = subst (λ (xs : List Call). Reaches pool size (next s.pool h) xs) (sym (pool_calls-append r (Pooled h ∷ []))) (pool_on h is);
        pool_run = subst (λ (xs : List Call). IsRun size xs (after t.object.pool h)) (sym (pool_calls-append r (Pooled h ∷ []))) (pool_run_on h is);
        values = t.values;
        many = t.many ∙ sym (size_kept s.pool t.object.pool h own);
      }

  extended_keeps : (more : ℕ) (value : T) (reply : Result (Unit {0}) Refusal) → reply ≡ widen_answer s.pool more → Stands size first (after_extend s more value) (r ++ Extended more value reply ∷ [])
  extended_keeps more value reply is =
      let h : Call = Widened more reply in
      let right : reply ≡ done_unless (widen_refusal t.object.pool.most t.object.pool.size more) = pool_right h is in
      record {
        object = slots_after t.object (Extended more value reply);
        run = gone_on (Extended more value reply) right;
        pool = subst (λ (xs : List Call). Reaches pool size (after_widen s.pool more) xs) (sym (pool_calls-append r (Extended more value reply ∷ []))) (pool_on h is);
        pool_run = subst (λ (xs : List Call). IsRun size xs (after t.object.pool h)) (sym (pool_calls-append r (Extended more value reply ∷ []))) (pool_run_on h is);
        values = ap (λ (xs : List T). extended_in reply more value xs) t.values ∙ ap (λ (k : Result (Unit {0}) Refusal). extended_in k more value s.values) is;
        many = many_extended t.object.pool more value t.object.values reply t.many right;
      }

  stored_keeps : (p : ℕ) (value : T) (reply : Result (Unit {0}) Refusal) → reply ≡ stored_reply (number_answer s.pool p) → Stands size first (after_put s p value) (r ++ Stored p value reply ∷ [])
  stored_keeps p value reply is =
      let held = held_is p in
      record {
        object = slots_after t.object (Stored p value reply);
        run = gone_on (Stored p value reply) (is ∙ ap stored_reply held);
        pool = subst (λ (xs : List Call). Reaches pool size s.pool xs) (sym (pool_calls-other r (Stored p value reply) refl)) t.pool;
        pool_run = subst (λ (xs : List Call). IsRun size xs t.object.pool) (sym (pool_calls-other r (Stored p value reply) refl)) t.pool_run;
        values = ap (λ (xs : List T). stored_in (number_in t.object.pool p) value xs) t.values ∙ ap (λ (k : Result ℕ Refusal). stored_in k value s.values) (sym held);
        many = length-stored_in (number_in t.object.pool p) value t.object.values ∙ t.many;
      }

  fetched_keeps : (p : ℕ) (reply : Result T Refusal) → IsFetched s.values (number_answer s.pool p) reply → Stands size first s (r ++ Fetched p reply ∷ [])
  fetched_keeps p reply is =
      let right : IsFetched t.object.values (number_in t.object.pool p) reply =
      subst (λ (k : Result ℕ Refusal). IsFetched t.object.values k reply) (held_is p) (subst (λ (xs : List T). IsFetched xs (number_answer s.pool p) reply) (sym t.values) is) in
      record {
        object = t.object;
        run = gone_on (Fetched p reply) right;
        pool = subst (λ (xs : List Call). Reaches pool size s.pool xs) (sym (pool_calls-other r (Fetched p reply) refl)) t.pool;
        pool_run = subst (λ (xs : List Call). IsRun size xs t.object.pool) (sym (pool_calls-other r (Fetched p reply) refl)) t.pool_run;
        values = t.values;
        many = t.many;
      }

next_keeps : {T : Type 0} (size : PoolStart) (first : List T) (s : SlotsState T) (r : List (SlotCall T)) (h : SlotCall T) → Stands size first s r → IsSlotReply s h → Stands size first (slots_next s h) (r ++ h ∷ [])
next_keeps size first s r (Pooled h) t is = pooled_keeps size first s r t h is
next_keeps size first s r (Stored p value reply) t is = stored_keeps size first s r t p value reply is
next_keeps size first s r (Fetched p reply) t is = fetched_keeps size first s r t p reply is
next_keeps size first s r (Extended more value reply) t is = extended_keeps size first s r t more value reply is

-- so it is after any calls
stands : {T : Type 0} (s : SlotsState T) → OnEveryHistory slots (λ first r. Stands first.0 first.1 s r) s
stands {T} s first r a =
    let fresh : SlotsState T = record { pool = fresh_pool first.0; values = first.1 } in
    let begun : Stands first.0 first.1 fresh [] = record {
      object = fresh_slots first.0 first.1;
      run = refl;
      pool = pool_proved.fresh first.0 (a.started.0, a.started.1, a.started.2);
      pool_run = refl;
      values = refl;
      many = a.started.3;
    } in
    always_by slots (Stands first.0 first.1) (next_keeps first.0 first.1) first begun s r a

-- the law
pub slots_law : {T : Type 0} (s : SlotsState T) → SatisfiesSpec slots s
slots_law s first r a =
    let t = stands s first r a in
    record { object = t.object; run = t.run; pool = pool_proved.law s.pool first.0 (pool_calls r) t.pool; slots = t.many }

-- each call is answered as the object that those before it make may answer it
slots_due : {T : Type 0} (s : SlotsState T) → RefusesWhereDue slots s
slots_due s first r a =
    let law = slots_law s first r a in
    run_answers slots_after SlotAnswers (fresh_slots first.0 first.1) r law.object law.run

-- so slots are proved
pub slots_proved : {T : Type 0} → IsProved (slots {T = T})
slots_proved = machine_proved slots slots_law slots_due

-- the pool is after its part of the calls
pub pool_after : {T : Type 0} (s : SlotsState T) → OnEveryHistory slots (λ first r. Reaches pool first.0 s.pool (pool_calls r)) s
pool_after s first r a = (stands s first r a).pool

-- a list has something at each place below its length
something_at : {T : Type 0} (xs : List T) (i : ℕ) → i < length xs → (v : T) × (slice_get xs i ≡ Some v)
something_at [] i below = absurd (omega arith)
something_at (x ∷ xs) zero below = (x, refl)
something_at (x ∷ xs) (suc i) below = something_at xs i (omega arith)

held_of : (o : PoolObject) (p n : ℕ) → number_in o p ≡ Ok n → o.held p ≡ Some n
held_of o p n h = elim (competes o p) as (λ b. cond (not b) (Err NotCompeting) (ok_or (o.held p) NotHolding) ≡ Ok n → o.held p ≡ Some n) [
  | true ↦ λ k. elim (o.held p) as (λ q. ok_or q NotHolding ≡ Ok n → q ≡ Some n) [ None ↦ λ j. absurd (cc) | Some m ↦ λ j. (let e : m ≡ n = cc in ap Some e) ] k
  | false ↦ λ k. absurd (cc)
] h

-- a number that is held is one of the slots
pub held_within : {T : Type 0} (s : SlotsState T) (id n : ℕ) → number_answer s.pool id ≡ Ok n → OnEveryHistory slots (λ first r. (1 ≤ n) × (n ≤ length s.values)) s
held_within {T} s id n holds first r a =
    let size = first.0 in
    let t = stands s first r a in
    let law = pool_proved.law s.pool size (pool_calls r) t.pool in
    let held : law.object.held id ≡ Some n = held_of law.object id n (sym (number_after size s.pool (pool_calls r) law.object t.pool law.run id) ∙ holds) in
    let range = law.in_range id n held in
    let same : law.object ≡ t.object.pool = run_one after Answers (fresh_object size) (pool_calls r) law.object t.object.pool law.run t.pool_run in
    let sized : law.object.size ≡ t.object.pool.size = ap (λ (o : PoolObject). o.size) same in
    let many : length s.values ≡ t.object.pool.size = sym (ap length t.values) ∙ t.many in
    (range.0, omega arith)

pub slot_there : {T : Type 0} (s : SlotsState T) (id n : ℕ) → number_answer s.pool id ≡ Ok n → OnEveryHistory slots (λ first r. (v : T) × (slot n s.values ≡ Some v)) s
slot_there s id n holds first r a =
    let within = held_within s id n holds first r a in
    something_at s.values (n - 1) (omega arith)
