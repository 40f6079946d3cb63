-- each call of a tree's world is refused exactly where the calls before it make it due
use Rattle.std.proofs.Common.{◌≡◌, ◌≢◌, ◌≤◌, ℕ, Bool, true, false, cond, not, ◌&&◌, ◌||◌, ◌==◌, ◌⊎◌, inl, inr, List, [], ◌∷◌, ◌++◌, Option, Some, None, Result, Err, refl, sym, ap, ◌∙◌, ne_eqb, is_some}
use Rattle.model_splitter.proofs.tree_lemmas.WorldCommon.{Decides-eqb, Read, Write, Participant, Refusal, Finished, Record, participant_of, beginner, MemorySteps, run_keeps, Run, set_at-cases, participant_of-push, let_in, TreeRegister, Mark, TreeValue, Collect, Client, Task, Placing, Nothing, Storing, IsTreeMemory, IsEmptyTree, next_access, walker_note, place_of, collect_reads, collect_after, collect_view, TreeState, asking_refusal, after_store, after_collect_begin, after_collecting, may_lack_memory, fresh_over, TreeCall, next, IsReply, TreeBegan, TreeStepped, Stored, CollectBegan, CollectStepped, way_calls, PlacesSpec}
use Rattle.std.proofs.Math.Bool.{or-false}
use Rattle.model_steps.specs.World.{begin_refusal, begun_unless, done_unless, may_refuse_by}
use Rattle.model_steps.specs.Calls.Call.{Began, Stepped}
use Rattle.model_steps.specs.Due.{has_begun, begin_due, step_due, RefusesAsDue}
use Rattle.model_steps.proofs.cited.DueLemmas.{due_more, has_begun-append, cut, nothing_cut, ended_with_outcome, ends_once}
use Rattle.model_splitter.specs.tree.Client.{client_of, client_steps, client_access, access_for, is_placing, is_idle, is_collecting, is_placed, collecting, collecting_after, with_task, write_at, record_of, task_after}
use Rattle.model_splitter.specs.tree.TreeDue.{collects_after, collects_from, collects, has_place, asking_due, IsTreeRefusedAsDue, TreeRefusesAsDue}
use Rattle.model_splitter.proofs.tree_lemmas.CallCases.{IsRefused, HindersHere, HindersStep, IsStep, IsCollectStep, got_on, walked_on, read_by, turned, turned_stands, step_cases, store_cases, collect_begin_cases, collect_step_cases}
use Rattle.model_splitter.proofs.tree_lemmas.PlacesTied.{IsTied, is_storing, way_calls-append, no_way, call_kept, tied_new, all_go, law_of_tied}

not_not : (a : Bool) → not (not a) ≡ a
not_not true = refl
not_not false = refl

-- lists of calls, one more at the end
pub collects_from-push : (p : ℕ) (before : Bool) (r : List TreeCall) (h : TreeCall) → collects_from p before (r ++ h ∷ []) ≡ collects_after p (collects_from p before r) h
collects_from-push p before [] h = refl
collects_from-push p before (k ∷ r) h = collects_from-push p (collects_after p before k) r h

way_more : (most : ℕ) (r : List TreeCall) (h : TreeCall) → RefusesAsDue is_some most true (way_calls r) → IsTreeRefusedAsDue most r h → RefusesAsDue is_some most true (way_calls (r ++ h ∷ []))
way_more most r (TreeBegan id reply) way is = rw (way_calls-append r (TreeBegan id reply ∷ [])) (due_more is_some most true (way_calls r) (Began id reply) way is)
way_more most r (TreeStepped id reply) way is = rw (way_calls-append r (TreeStepped id reply ∷ [])) (due_more is_some most true (way_calls r) (Stepped id reply) way is)
way_more most r h way is = rw (no_way r h refl) way

tree_due_more : (most : ℕ) (r : List TreeCall) (h : TreeCall) → TreeRefusesAsDue most r → IsTreeRefusedAsDue most r h → TreeRefusesAsDue most (r ++ h ∷ [])
tree_due_more most r h all one = λ before k rest e. elim (cut r h before k rest e) [
  | inl c ↦ all before k c.shorter c.is
  | inr c ↦ rw (c.all, c.same) one
]

-- whether a participant collects, where there is one
abbrev pub collecting_in : Option (Participant Client) → Bool
collecting_in None = false
collecting_in (Some v) = is_collecting v.program.task

-- who has its place, stores nothing and does not collect has nothing to do
idle_is : (t : Task) → is_storing t ≡ false → is_idle t ≡ (not (is_placing t) && not (is_collecting t))
idle_is (Storing value) h = absurd (cc)
idle_is t h = refl

-- one on its way, and after a step one with its place, does not collect
no_collect : (b : Bool) → is_collecting (cond b Nothing Placing) ≡ false
no_collect true = refl
no_collect false = refl

-- one that collects goes on while it is shown nothing
collects_on : (collect : Collect) (shown : Option (List (ℕ × ℕ))) → is_collecting (task_after collect shown) ≡ not (is_some shown)
collects_on collect None = refl
collects_on collect (Some view) = refl

-- only one on its way may be refused because an allocation failed
write_marks_none : (o : Option ℕ) (x : Record) (k : ℕ) (v : TreeValue) → write_at o x ≡ Write (Mark k) v → ⊥
write_marks_none None x k v h = cc
write_marks_none (Some place) x k v h = cc

placing_lacks : (c : Client) (task : Task) (k : ℕ) (v : TreeValue) → access_for c task ≡ Write (Mark k) v → is_placing task ≡ true
placing_lacks c Placing k v h = refl
placing_lacks c (Storing value) k v h = absurd (write_marks_none (place_of c.walker) (record_of c value) k v h)
placing_lacks c task k v h = absurd (cc)

-- what a call leaves of who has begun, and of who collects
record Counts {S : Type 0} (w new : TreeState S) (h : TreeCall) : Type 0 where
  most : new.most ≡ w.most
  begun : (p : ℕ) → is_some (participant_of p new.participants) ≡ (is_some (participant_of p w.participants) || has_begun p (way_calls (h ∷ [])))
  collecting : (p : ℕ) → collecting_in (participant_of p new.participants) ≡ collects_after p (collecting_in (participant_of p w.participants)) h

module _ {S : Type 0} (w : TreeState S) (h : TreeCall) (none : (p : ℕ) → has_begun p (way_calls (h ∷ [])) ≡ false) where
  -- a call that is refused leaves all as they were
  counts_same : (new : TreeState S) → new ≡ w → ((p : ℕ) (b : Bool) → collects_after p b h ≡ b) → Counts w new h
  counts_same new same quiet = record {
    most = ap (λ (v : TreeState S). v.most) same;
    begun = λ p. rw (same, none p) (sym (or-false (is_some (participant_of p w.participants))));
    collecting = λ p. rw same (sym (quiet p (collecting_in (participant_of p w.participants))));
  }

  -- a participant has become another
  counts_turned : (s : S) (id : ℕ) (who : Participant Client) (c : Client) → participant_of id w.participants ≡ Some who → is_collecting c.task ≡ collects_after id (is_collecting who.program.task) h →
      ((p : ℕ) (b : Bool) → p ≢ id → collects_after p b h ≡ b) → Counts w (turned w s id c) h
  counts_turned s id who c here own others = record {
    most = refl;
    begun = λ p. ap is_some (turned_stands w s id c who here p)
        ∙ set_at-cases (λ q. participant_of q w.participants) id (Some (beginner id c)) (λ o. is_some o ≡ (is_some (participant_of p w.participants) || has_begun p (way_calls (h ∷ [])))) p
        (λ e. rw (e, here) refl) (λ _. rw (none p) (sym (or-false (is_some (participant_of p w.participants)))));
    collecting = λ p. ap collecting_in (turned_stands w s id c who here p)
        ∙ set_at-cases (λ q. participant_of q w.participants) id (Some (beginner id c)) (λ o. collecting_in o ≡ collects_after p (collecting_in (participant_of p w.participants)) h) p
        (λ e. rw (e, here) own) (λ n. sym (others p (collecting_in (participant_of p w.participants)) n));
  }

-- one who begins
begin_counts : {S : Type 0} (w : TreeState S) (id : ℕ) → Counts w (begun_unless (begin_refusal w id) w id (client_of id)) (TreeBegan id (done_unless (begin_refusal w id)))
begin_counts w id = elim (begin_refusal w id) as (λ o. begin_refusal w id ≡ o → Counts w (begun_unless o w id (client_of id)) (TreeBegan id (done_unless o))) [
  | Some why ↦ λ e. counts_same w (TreeBegan id (Err why)) (λ p. refl) w refl (λ p b. refl)
  | None ↦ λ e.
      let absent : participant_of id w.participants ≡ None = (let_in w id e).absent in
      let push = participant_of-push w.participants (beginner id (client_of id)) absent in
      record {
        most = refl;
        begun = λ p. ap is_some (push p) ∙ set_at-cases (λ q. participant_of q w.participants) id (Some (beginner id (client_of id))) (λ o. is_some o ≡ (is_some (participant_of p w.participants) || ((id == p) || false))) p
            (λ e. rw (e, absent, (Decides-eqb id id).1 refl) refl) (λ n. rw (ne_eqb id p (λ e. n (sym e))) (sym (or-false (is_some (participant_of p w.participants)))));
        collecting = λ p. ap collecting_in (push p) ∙ set_at-cases (λ q. participant_of q w.participants) id (Some (beginner id (client_of id))) (λ o. collecting_in o ≡ collecting_in (participant_of p w.participants)) p
            (λ e. rw (e, absent) refl) (λ _. refl);
      }
] refl

module _ {S : Type 0} (memory : MemorySteps S TreeRegister TreeValue) (tree : IsTreeMemory memory) (most : ℕ) where
  -- the participants of a world are those that these calls leave, which are refused as is due
  pub record IsCounted (w : TreeState S) (r : List TreeCall) : Type 0 where
    pub tied : IsTied memory tree w r
    pub most_is : w.most ≡ most
    pub begun : (p : ℕ) → is_some (participant_of p w.participants) ≡ has_begun p (way_calls r)
    pub collecting : (p : ℕ) → collecting_in (participant_of p w.participants) ≡ collects p r
    pub way : RefusesAsDue is_some most true (way_calls r)
    pub due : TreeRefusesAsDue most r

  counted_next : (w : TreeState S) (r : List TreeCall) (h : TreeCall) → IsReply memory w h → Counts w (next memory w h) h → IsTreeRefusedAsDue most r h → IsCounted w r → IsCounted (next memory w h) (r ++ h ∷ [])
  counted_next w r h reply left is t = record {
    tied = call_kept memory tree w r h t.tied reply;
    most_is = left.most ∙ t.most_is;
    begun = λ p. left.begun p ∙ ap (λ b. b || has_begun p (way_calls (h ∷ []))) (t.begun p) ∙ sym (ap (has_begun p) (way_calls-append r (h ∷ [])) ∙ has_begun-append p (way_calls r) (way_calls (h ∷ [])));
    collecting = λ p. left.collecting p ∙ ap (λ b. collects_after p b h) (t.collecting p) ∙ sym (collects_from-push p false r h);
    way = way_more most r h t.way is;
    due = tree_due_more most r h t.due is;
  }

  -- what the calls tell of one who has begun or not
  module _ (w : TreeState S) (r : List TreeCall) (id : ℕ) (t : IsCounted w r) where
    begun_as : (o : Option (Participant Client)) → participant_of id w.participants ≡ o → has_begun id (way_calls r) ≡ is_some o
    begun_as o e = sym (t.begun id) ∙ ap is_some e

    collects_as : (v : Participant Client) → participant_of id w.participants ≡ Some v → collects id r ≡ is_collecting v.program.task
    collects_as v e = sym (t.collecting id) ∙ ap collecting_in e

    -- whether one has its place
    place_as : (v : Participant Client) → participant_of id w.participants ≡ Some v → has_place id r ≡ not (is_placing v.program.task)
    place_as v e =
        sym (ended_with_outcome id (way_calls r)) ∙ ap is_some (t.tied.reported.outcomes id)
        ∙ rw e (sym (ap not (t.tied.clients id v e).task ∙ not_not (is_some (place_of v.program.walker))))

    -- so the refusals of its calls are due
    lacking_due : may_lack_memory memory w id ≡ true → step_due is_some (way_calls r) id ≡ None
    lacking_due h = elim (participant_of id w.participants) as (λ o. participant_of id w.participants ≡ o → may_refuse_by client_steps memory w.memory o ≡ true → step_due is_some (way_calls r) id ≡ None) [
      | None ↦ λ e k. absurd (cc)
      | Some v ↦ λ e k.
          let lacks : memory.may_refuse w.memory (client_access v.program) ≡ true = rw (t.tied.clients id v e).goes at k in
          let write = tree.refuses w.memory (client_access v.program) lacks in
          rw (begun_as (Some v) e, place_as v e, placing_lacks v.program v.program.task write.0 write.1 write.2) refl
    ] refl h

    step_is_due : (reply : Result (Option ℕ) Refusal) (new : TreeState S) → IsRefused reply w new (HindersStep memory w id) ⊎ IsStep memory w id reply new → IsTreeRefusedAsDue most r (TreeStepped id reply)
    step_is_due reply new (inr x) = rw (x.is, begun_as (Some x.who) x.here, place_as x.who x.here, x.task) refl
    step_is_due reply new (inl x) = rw x.is (elim x.cause [
      | inr lack ↦ inr (lacking_due lack.1, lack.0, refl)
      | inl why ↦ inl (elim why [
        | inl a ↦ rw (begun_as None a.0, a.1) refl
        | inr v ↦ rw (begun_as (Some v.0) v.1, place_as v.0 v.1, v.2, v.3) refl
      ])
    ])

    asking_is : asking_refusal w id ≡ asking_due r id
    asking_is = elim (participant_of id w.participants) as (λ o. participant_of id w.participants ≡ o → asking_refusal w id ≡ asking_due r id) [
      | None ↦ λ e. rw (e, begun_as None e) refl
      | Some v ↦ λ e. rw (e, begun_as (Some v) e, place_as v e, collects_as v e, idle_is v.program.task (t.tied.clients id v e).stores) refl
    ] refl

    collect_is_due : (reply : Result (Option (List (ℕ × ℕ))) Refusal) (new : TreeState S) →
        IsRefused reply w new (HindersHere memory w id is_collecting Finished) ⊎ IsCollectStep memory w id reply new → IsTreeRefusedAsDue most r (CollectStepped id reply)
    collect_is_due reply new (inr x) = rw (x.is, begun_as (Some x.who) x.here, collects_as x.who x.here, x.task) refl
    collect_is_due reply new (inl x) = rw x.is (elim x.cause [
      | inl a ↦ rw (begun_as None a.0, a.1) refl
      | inr v ↦ rw (begun_as (Some v.0) v.1, collects_as v.0 v.1, v.2, v.3) refl
    ])

  pub call_counted : (w : TreeState S) (r : List TreeCall) (h : TreeCall) → IsCounted w r → IsReply memory w h → IsCounted (next memory w h) (r ++ h ∷ [])
  call_counted w r (TreeBegan id reply) t is =
      let due : begin_refusal w id ≡ begin_due is_some most (way_calls r) id = rw (t.begun id, ← t.tied.begun_is, t.most_is) refl in
      counted_next w r (TreeBegan id reply) is (rw is (begin_counts w id)) (is ∙ ap done_unless due) t
  call_counted w r (TreeStepped id reply) t is =
      let call : TreeCall = TreeStepped id reply in
      let cases = step_cases memory w id (all_go memory tree w r t.tied) reply is in
      counted_next w r call is (elim cases [
        | inl x ↦ counts_same w call (λ p. refl) (next memory w call) x.same (λ p b. refl)
        | inr x ↦ rw x.after (counts_turned w call (λ p. refl) (memory.after w.memory (next_access x.who.program.walker)) id x.who (walked_on memory w id x.who.program.walker) x.here
            (no_collect (is_placed (walker_note x.who.program.walker (got_on memory w id x.who.program.walker))) ∙ sym (ap is_collecting x.task)) (λ p b n. refl))
      ]) (step_is_due w r id t reply (next memory w call) cases) t
  call_counted w r (Stored id value reply) t is =
      let call : TreeCall = Stored id value reply in
      counted_next w r call is (elim (store_cases memory w id value reply is) [
        | inl x ↦ counts_same w call (λ p. refl) (after_store memory w id value) x.same (λ p b. refl)
        | inr x ↦ rw x.after (counts_turned w call (λ p. refl) (memory.after w.memory (write_at (place_of x.who.program.walker) (record_of x.who.program value)))
            id x.who (with_task x.who.program Nothing) x.here (sym (ap is_collecting x.task)) (λ p b n. refl))
      ]) (is ∙ ap done_unless (asking_is w r id t)) t
  call_counted w r (CollectBegan id reply) t is =
      let call : TreeCall = CollectBegan id reply in
      counted_next w r call is (elim (collect_begin_cases memory w id reply is) [
        | inl x ↦ counts_same w call (λ p. refl) (after_collect_begin w id) x.same (λ p b. rw x.is refl)
        | inr x ↦ rw x.after (counts_turned w call (λ p. refl) w.memory id x.who (collecting x.who.program) x.here (rw (x.is, (Decides-eqb id id).1 refl) refl) (λ p b n. rw (x.is, ne_eqb id p (λ e. n (sym e))) refl))
      ]) (is ∙ ap done_unless (asking_is w r id t)) t
  call_counted w r (CollectStepped id reply) t is =
      let call : TreeCall = CollectStepped id reply in
      let cases = collect_step_cases memory w id (all_go memory tree w r t.tied) reply is in
      counted_next w r call is (elim cases [
        | inl x ↦ counts_same w call (λ p. refl) (after_collecting memory w id) x.same (λ p b. rw x.is refl)
        | inr x ↦
            let got : TreeValue = read_by memory w id x.collect in
            rw x.after (counts_turned w call (λ p. refl) (memory.after w.memory (Read (collect_reads x.collect))) id x.who (collecting_after x.who.program x.collect got) x.here
            (collects_on (collect_after x.collect got) (collect_view x.collect got) ∙ sym (rw (x.is, (Decides-eqb id id).1 refl) refl)) (λ p b n. rw (x.is, ne_eqb id p (λ e. n (sym e))) refl))
      ]) (collect_is_due w r id t reply (after_collecting memory w id) cases) t

  pub counted_new : (first : S) → IsEmptyTree memory first → most ≤ 64 → IsCounted (record { memory = first; most = most; participants = [] }) []
  counted_new first empty few = record {
    tied = tied_new memory tree first most empty few;
    most_is = refl;
    begun = λ p. refl;
    collecting = λ p. refl;
    way = λ before h rest e. absurd (nothing_cut before h rest e);
    due = λ before h rest e. absurd (nothing_cut before h rest e);
  }

  pub world_counted : (first : S) (w : TreeState S) (r : List TreeCall) → IsEmptyTree memory first → most ≤ 64 → Run (next memory) (IsReply memory) (fresh_over memory (first, most)) r w → IsCounted w r
  world_counted first w r empty few a = run_keeps (next memory) (IsReply memory) IsCounted call_counted (fresh_over memory (first, most)) [] r w (counted_new first empty few) a

  -- the law of the places
  pub places_law : (first : S) (w : TreeState S) (r : List TreeCall) → IsEmptyTree memory first → most ≤ 64 → Run (next memory) (IsReply memory) (fresh_over memory (first, most)) r w → PlacesSpec r
  places_law first w r empty few a =
      let t = world_counted first w r empty few a in
      law_of_tied memory tree w r t.tied (ends_once is_some most true (way_calls r) t.way)
