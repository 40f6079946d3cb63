-- each call of a tree's world keeps the tie, and is one that the law of collects allows
use Rattle.std.proofs.Common.{◌≡◌, ◌≢◌, ℕ, ◌+◌, ◌-◌, ◌*◌, ◌≤◌, ◌==◌, Bool, true, false, cond, not, List, [], ◌∷◌, ◌++◌, length, length-append, Option, Some, None, Result, Ok, inl, inr, refl, sym, ap, subst, ◌∙◌, arith, is_some}
use Rattle.model_splitter.proofs.tree_lemmas.WorldCommon.{cases_Bool, set_at, Run, MemorySteps, begin_refusal, begun_unless, done_unless, participant_of, beginner, Read, Participant, Refusal, let_in, TreeRegister, Mark, Contents, TreeValue, Walker, Collect, Client, Placing, Nothing, Collecting, IsTreeMemory, IsEmptyTree, segment_in, word_in, next_access, walker_note, place_of, place_by, collect_reads, first_collect, collect_after, collect_view, view_with, walk_is_over, client_of, is_placing, is_placed, collecting, collecting_after, record_of, task_after, TreeState, fresh_over, TreeCall, next, IsReply, Began, Stepped, Stored, CollectBegan, CollectStepped, collects_after, collects, marked_in, HasRead, walker_in, walkers, count_to, count_le}
use Rattle.model_steps.proofs.cited.ParticipantLemmas.{participant_of-push, length-with_participant, some_begun}
use Rattle.model_steps.proofs.cited.SetAtLemmas.{set_at-same, set_at-other, set_at-cases, same_in}
use Rattle.model_steps.proofs.cited.Roster.{eqb_flip}
use Rattle.model_steps.proofs.cited.RunLemmas.{run_keeps, run_more, run_one}
use Rattle.model_splitter.specs.tree.CollectLaw.{CollectObject, new_object, one_begun, goes_on, observed, ShowsValues, most_steps, AllowsStep, Allows, CollectSpec}
use Rattle.model_splitter.proofs.tree_lemmas.CallCases.{IsStep, got_on, walked_on, read_by, turned, step_cases, store_cases, collect_begin_cases, collect_step_cases}
use Rattle.model_splitter.proofs.tree_lemmas.DueTied.{IsCounted, collecting_in, collects_from-push, call_counted, counted_new}
use Rattle.model_splitter.proofs.cited.tree.nodes.ConsistentKept.{segments}
use Rattle.model_splitter.proofs.tree_lemmas.PlacesTied.{all_go, no_place, tree_of_tied, walkers_turned}
use Rattle.model_splitter.proofs.cited.tree.collects.ReadCount.{reads_few, nodes_few}
use Rattle.model_splitter.proofs.cited.tree.collects.PlacesAhead.{path_marked, marked_few, marks_grow}
use Rattle.model_splitter.proofs.tree_lemmas.UnderWay.{UnderWay, under_way_at_first, read_still, read_stored, read_rising, under_way_read, TellsOf}
use Rattle.model_splitter.proofs.tree_lemmas.CollectTied.{collect_of, collect_in, place_now, some_is, few_begun, Agrees, tells, unstored, collects_turned, place_kept, stored}

-- who collects in the object, after a call
set_from : (f : ℕ → Bool) (id : ℕ) (b : Bool) (p : ℕ) → set_at f id b p ≡ cond (id == p) b (f p)
set_from f id b p = ap (λ t. cond t b (f p)) (eqb_flip p id)

collects_observed : (o : CollectObject) (h : TreeCall) (p : ℕ) → (observed o h).collects p ≡ collects_after p (o.collects p) h
collects_observed o (CollectBegan id (Ok done)) p = set_from o.collects id true p
collects_observed o (CollectStepped id (Ok None)) p = set_from o.collects id true p
collects_observed o (CollectStepped id (Ok (Some view))) p = set_from o.collects id false p
collects_observed o (Began id (Ok done)) p = refl
collects_observed o (Stored id value (Ok done)) p = refl
collects_observed o h p = refl

not_walking : (b : Bool) → collect_of (cond b Nothing Placing) ≡ None
not_walking true = refl
not_walking false = refl

has_some : {X : Type 0} (o : Option X) → false ≡ not (is_some o) → (x : X) × (o ≡ Some x)
has_some None h = absurd (cc)
has_some (Some x) h = (x, refl)

module _ {S : Type 0} (memory : MemorySteps S TreeRegister TreeValue) (tree : IsTreeMemory memory) (most : ℕ) where
  -- the calls so far keep the law, and the world agrees with the object that they lead to
  pub record IsObserved (w : TreeState S) (r : List TreeCall) : Type 0 where
    pub counted : IsCounted memory tree most w r
    pub o : CollectObject
    pub run : Run observed Allows new_object r o
    pub collecting : (p : ℕ) → o.collects p ≡ collects p r
    pub agrees : Agrees memory w o

  module _ (w : TreeState S) (r : List TreeCall) (x : IsObserved w r) where
    abbrev o : CollectObject
    o = x.o

    collecting_now : (p : ℕ) → o.collects p ≡ collecting_in (participant_of p w.participants)
    collecting_now p = x.collecting p ∙ sym (x.counted.collecting p)

    -- few nodes are marked, and few have places
    few_marks : (n : ℕ) → count_to (marked_in memory w.memory) n ≤ 2 * length w.participants - 1
    few_marks = marked_few memory w.most (length w.participants) w.memory (walkers w.participants) x.counted.tied.consistent

    few_places : (n : ℕ) → count_to (λ q. is_some (place_now w q)) n ≤ 64
    few_places n =
        let le = count_le (λ q. is_some (place_now w q)) (λ q. is_some (participant_of q w.participants))
        (λ q. elim (participant_of q w.participants) as (λ v. is_some (place_by (walker_in v)) ≡ true → is_some v ≡ true) [ None ↦ λ k. absurd (cc) | Some v ↦ λ k. refl ]) n in
        omega (arith, le, few_begun w.participants n, x.counted.tied.consistent.room, x.counted.tied.consistent.few)

    -- one who begins
    began : (id : ℕ) → begin_refusal w id ≡ None → Agrees memory (record { memory = w.memory; most = w.most; participants = w.participants ++ beginner id (client_of id) ∷ [] }) (one_begun o)
    began id e =
        let new : Participant Client = beginner id (client_of id) in
        let absent : participant_of id w.participants ≡ None = (let_in w id e).absent in
        let push = participant_of-push w.participants new absent in
        unstored memory w (record { memory = w.memory; most = w.most; participants = w.participants ++ new ∷ [] }) o x.agrees (λ k. refl) (λ k h. h)
        (λ q k h. ap (λ v. place_by (walker_in v)) (push q) ∙ sym (same_in (λ v. place_by (walker_in v)) (λ u. participant_of u w.participants) id new q absent refl) ∙ h)
        (o.begun + 1) o.collects o.since o.steps (omega (arith, length-append w.participants (new ∷ []), x.agrees.many))
        (λ q c h. x.agrees.under_way q c (same_in collect_in (λ u. participant_of u w.participants) id new q absent refl ∙ sym (ap collect_in (push q)) ∙ h))

    -- a step on the way to a place
    stepped : (id : ℕ) (reply : Result (Option ℕ) Refusal) (after : TreeState S) → IsStep memory w id reply after → Agrees memory after o
    stepped id reply after y =
        let u : Walker = y.who.program.walker in
        let c : Client = walked_on memory w id u in
        let s : S = memory.after w.memory (next_access u) in
        let is : walkers w.participants id ≡ Some u = ap walker_in y.here in
        let off : place_of u ≡ None = no_place (place_of u) (sym (x.counted.tied.clients id y.who y.here).task ∙ ap is_placing y.task) in
        rw y.after (unstored memory w (turned w s id c) o x.agrees (segments memory w.most (length w.participants) w.memory (walkers w.participants) x.counted.tied.consistent tree id u is)
        (marks_grow memory w.most (length w.participants) w.memory (walkers w.participants) x.counted.tied.consistent tree id u is)
        (λ q k h. ap (λ (f : ℕ → Option Walker). place_by (f q)) (walkers_turned w s id y.who c y.here)
        ∙ set_at-cases (walkers w.participants) id (Some c.walker) (λ v. place_by v ≡ Some k) q (λ e. absurd (let never : None ≡ Some k = sym (ap place_by is ∙ off) ∙ ap (place_now w) (sym e) ∙ h in cc)) (λ _. h))
        o.begun o.collects o.since o.steps (x.agrees.many ∙ sym (length-with_participant w.participants (beginner id c)))
        (collects_turned w s id y.who c y.here (λ q d. UnderWay (marked_in memory w.memory) (place_now w) o.moment o.last (o.since q) (o.steps q) d)
        (λ d h. absurd (let never : None ≡ Some d = sym (not_walking (is_placed (walker_note u (got_on memory w id u)))) ∙ h in cc)) (λ q d _ h. x.agrees.under_way q d h)))

    -- a participant that keeps its walk, over a memory with the same registers, begins a collect or goes on with it
    asked : (s : S) → ((q : TreeRegister) → memory.register s q ≡ memory.register w.memory q) →
        (id : ℕ) (who : Participant Client) (c : Client) → participant_of id w.participants ≡ Some who → c.walker ≡ who.program.walker →
        (collects : ℕ → Bool) (since steps : ℕ → ℕ) → ((q : ℕ) → q ≢ id → (since q ≡ o.since q) × (steps q ≡ o.steps q)) →
        ((d : Collect) → collect_of c.task ≡ Some d → UnderWay (marked_in memory w.memory) (place_now w) o.moment o.last (since id) (steps id) d) →
        Agrees memory (turned w s id c) (record { begun = o.begun; last = o.last; moment = o.moment; collects = collects; since = since; steps = steps })
    asked s same id who c here walk collects since steps others own =
        unstored memory w (turned w s id c) o x.agrees (λ k. ap (λ v. segment_in v.0) (same (Contents k))) (λ k h. ap (λ v. word_in v.0 == 1) (same (Mark k)) ∙ h) (λ q k h. place_kept w s id who c here walk q ∙ h)
        o.begun collects since steps (x.agrees.many ∙ sym (length-with_participant w.participants (beginner id c)))
        (collects_turned w s id who c here (λ q d. UnderWay (marked_in memory w.memory) (place_now w) o.moment o.last (since q) (steps q) d) own
        (λ q d n h. let as_before = others q n in rw (as_before.0, as_before.1) (x.agrees.under_way q d h)))

    -- the walk of a collect that begins has all places ahead
    at_first : UnderWay (marked_in memory w.memory) (place_now w) o.moment o.last o.last 0 first_collect
    at_first = under_way_at_first (marked_in memory w.memory) (place_now w) o.moment o.last (λ q some.
        let h = some_is (place_now w q) (x.agrees.placed q some) in
        (h.0, h.1, path_marked memory w.most (length w.participants) w.memory (walkers w.participants) x.counted.tied.consistent q h.0 h.1))

    -- a step of a collect
    module _ (id : ℕ) (who : Participant Client) (c : Collect) (here : participant_of id w.participants ≡ Some who) (task : who.program.task ≡ Collecting c) where
      abbrev got : TreeValue
      got = read_by memory w id c

      under : UnderWay (marked_in memory w.memory) (place_now w) o.moment o.last (o.since id) (o.steps id) c
      under = x.agrees.under_way id c (rw (here, task) refl)

      reads : TellsOf (marked_in memory w.memory) (place_now w) (o.moment o.last) c.walk got
      reads = tells memory tree w o x.agrees c

      -- the collect as it goes on, and the view as it ends
      onward : walk_is_over c.walk got ≡ false → UnderWay (marked_in memory w.memory) (place_now w) o.moment o.last (o.since id) (o.steps id + 1) (collect_after c got)
      onward = under_way_read (marked_in memory w.memory) (place_now w) o.moment o.last (o.since id) (o.steps id) c got few_places x.agrees.grows under reads

      shows : walk_is_over c.walk got ≡ true → ShowsValues o (o.since id) (view_with c.view (segment_in got))
      shows over = record {
        rising = read_rising (marked_in memory w.memory) (place_now w) o.moment o.last (o.since id) (o.steps id) c got few_places x.agrees.grows under reads;
        stored = read_stored (marked_in memory w.memory) (place_now w) o.moment o.last (o.since id) (o.steps id) c got few_places x.agrees.grows under reads;
        complete = λ q some. elim (read_still (marked_in memory w.memory) (place_now w) o.moment o.last (o.since id) (o.steps id) c got few_places x.agrees.grows under reads q some) [
          | inl h ↦ h
          | inr h ↦ let never : true ≡ false = sym over ∙ h.0 in absurd (cc)
        ];
      }

      -- the steps are few
      few_steps : (d : Collect) (steps : ℕ) → UnderWay (marked_in memory w.memory) (place_now w) o.moment o.last (o.since id) steps d → steps + 1 ≤ most_steps o.begun
      few_steps d steps u =
          let few = reads_few (marked_in memory w.memory) d.walk u.nodes steps u.reads in
          let n = nodes_few (marked_in memory w.memory) d.walk u.nodes steps (2 * length w.participants - 1) u.reads few_marks in
          rw x.agrees.many (omega (arith, few, n, some_begun id w.participants who here))

      allowed : AllowsStep o id (collect_view c got)
      allowed = elim (cases_Bool (walk_is_over c.walk got)) [
        | inl over ↦ rw over (few_steps c (o.steps id) under, shows over)
        | inr on ↦ rw on (omega (arith, few_steps (collect_after c got) (o.steps id + 1) (onward on)))
      ]

      reads_on : (d : Collect) → collect_of (task_after (collect_after c got) (collect_view c got)) ≡ Some d → UnderWay (marked_in memory w.memory) (place_now w) o.moment o.last (o.since id) (o.steps id + 1) d
      reads_on d h = elim (cases_Bool (walk_is_over c.walk got)) [
        | inl over ↦ absurd (let never : None ≡ Some d = rw over at h in cc)
        | inr on ↦ let same : Some (collect_after c got) ≡ Some d = rw on at h in let is : collect_after c got ≡ d = cc in
            subst (λ (y : Collect). UnderWay (marked_in memory w.memory) (place_now w) o.moment o.last (o.since id) (o.steps id + 1) y) is (onward on)
      ]

    -- what a call is allowed and leaves
    keeps : (h : TreeCall) → IsReply memory w h → Allows o h × Agrees memory (next memory w h) (observed o h)
    keeps (Began id reply) is = rw is (
        elim (begin_refusal w id) as (λ v. begin_refusal w id ≡ v → Unit {0} × Agrees memory (begun_unless v w id (client_of id)) (observed o (Began id (done_unless v)))) [
          | Some why ↦ λ _. (tt, x.agrees)
          | None ↦ λ e. (tt, began id e)
        ] refl)
    keeps (Stepped id reply) is = (
      tt,
      elim (step_cases memory w id (all_go memory tree w r x.counted.tied) reply is) [
        | inl y ↦ rw y.same x.agrees
        | inr y ↦ stepped id reply (next memory w (Stepped id reply)) y
      ],
    )
    keeps (Stored id value reply) is = elim (store_cases memory w id value reply is) [
      | inl y ↦ rw (y.is, y.same) (tt, x.agrees)
      | inr y ↦
          let place = has_some (place_of y.who.program.walker) (sym (ap is_placing y.task) ∙ (x.counted.tied.clients id y.who y.here).task) in
          let by = (x.counted.tied.consistent.agree.walks id y.who.program.walker (ap walker_in y.here)).identity in
          rw (y.is, y.after, place.1) (
            collecting_now id ∙ rw (y.here, y.task) refl,
            stored memory tree _ w (tree_of_tied memory tree w r x.counted.tied) o x.agrees id y.who y.here place.0 (ap (λ v. place_by (walker_in v)) y.here ∙ place.1) (record_of y.who.program value) by,
          )
    ]
    keeps (CollectBegan id reply) is = elim (collect_begin_cases memory w id reply is) [
      | inl y ↦ rw (y.is, y.same) (tt, x.agrees)
      | inr y ↦ rw (y.is, y.after) (
        collecting_now id ∙ rw (y.here, y.task) refl,
        asked w.memory (λ q. refl) id y.who (collecting y.who.program) y.here refl (set_at o.collects id true) (set_at o.since id o.last) (set_at o.steps id 0)
            (λ q n. (set_at-other o.since id o.last q n, set_at-other o.steps id 0 q n)) (λ d h. let is : first_collect ≡ d = cc in rw (set_at-same o.since id o.last, set_at-same o.steps id 0, ← is) at_first),
      )
    ]
    keeps (CollectStepped id reply) is = elim (collect_step_cases memory w id (all_go memory tree w r x.counted.tied) reply is) [
      | inl y ↦ rw (y.is, y.same) (tt, x.agrees)
      | inr y ↦
          let read = read_by memory w id y.collect in
          rw (y.is, y.after) (
            (collecting_now id ∙ rw (y.here, y.task) refl, allowed id y.who y.collect y.here y.task),
            asked (memory.after w.memory (Read (collect_reads y.collect))) (λ q. tree.others w.memory (Read (collect_reads y.collect)) q tt) id y.who (collecting_after y.who.program y.collect read) y.here refl
                (set_at o.collects id (goes_on (collect_view y.collect read))) o.since (set_at o.steps id (o.steps id + 1)) (λ q n. (refl, set_at-other o.steps id (o.steps id + 1) q n))
                (λ d h. rw (set_at-same o.steps id (o.steps id + 1)) (reads_on id y.who y.collect y.here y.task d h)),
          )
    ]

  next_observed : (w : TreeState S) (r : List TreeCall) (h : TreeCall) → IsObserved w r → IsReply memory w h → IsObserved (next memory w h) (r ++ h ∷ [])
  next_observed w r h x is =
      let kept = keeps w r x h is in
      record {
        counted = call_counted memory tree most w r h x.counted is;
        o = observed x.o h;
        run = run_more observed Allows new_object r x.o h x.run kept.0;
        collecting = λ p. collects_observed x.o h p ∙ ap (λ b. collects_after p b h) (x.collecting p) ∙ sym (collects_from-push p false r h);
        agrees = kept.1;
      }

  -- a tree of no nodes, and nobody there
  observed_new : (first : S) → most ≤ 64 → IsEmptyTree memory first → IsObserved (record { memory = first; most = most; participants = [] }) []
  observed_new first few empty = record {
    counted = counted_new memory tree most first empty few;
    o = new_object;
    run = refl;
    collecting = λ p. refl;
    agrees = record {
      many = refl;
      owned = λ k r h. let never : None ≡ Some r = sym (empty.nothing_held k) ∙ h in absurd (cc);
      held = λ q k h. absurd (cc);
      placed = λ q h. absurd (cc);
      grows = λ i q l h. h;
      under_way = λ q c h. absurd (cc);
    };
  }

  run_observed : (first : S) (w : TreeState S) (r : List TreeCall) → most ≤ 64 → IsEmptyTree memory first → Run (next memory) (IsReply memory) (fresh_over memory (first, most)) r w → IsObserved w r
  run_observed first w r few empty a = run_keeps (next memory) (IsReply memory) IsObserved next_observed (fresh_over memory (first, most)) [] r w (observed_new first few empty) a

-- calls that a world may be after keep the law of collects
module _ {S : Type 0} (memory : MemorySteps S TreeRegister TreeValue) (tree : IsTreeMemory memory) (first : S) (most : ℕ) (w : TreeState S) (r : List TreeCall) (few : most ≤ 64) (empty : IsEmptyTree memory first) (after : Run (next memory) (IsReply memory) (fresh_over memory (first, most)) r w) where
  pub collect_law : CollectSpec r
  collect_law = let x = run_observed memory tree most first w r few empty after in (x.o, x.run)

  -- a collect that is under way has made so many steps, and found so many nodes marked
  pub collect_reads_few : (o : CollectObject) (p : ℕ) (v : Participant Client) (c : Collect) → Run observed Allows new_object r o → participant_of p w.participants ≡ Some v → v.program.task ≡ Collecting c →
      (nodes : ℕ) × HasRead (marked_in memory w.memory) c.walk nodes (o.steps p) × (o.steps p + 1 ≤ 3 * nodes + 1)
  collect_reads_few o p v c run here task =
      let x = run_observed memory tree most first w r few empty after in
      let way = x.agrees.under_way p c (rw (here, task) refl) in
      let reads : HasRead (marked_in memory w.memory) c.walk way.nodes (o.steps p) = subst (λ (y : CollectObject). HasRead (marked_in memory w.memory) c.walk way.nodes (y.steps p)) (run_one observed Allows new_object r x.o o x.run run) way.reads in
      (way.nodes, reads, reads_few (marked_in memory w.memory) c.walk way.nodes (o.steps p) reads)
