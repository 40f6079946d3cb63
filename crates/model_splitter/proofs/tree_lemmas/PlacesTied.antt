-- what ties the places of a tree's world to the calls that it is after
use Rattle.std.proofs.Common.{◌≡◌, ◌≢◌, ℕ, suc, ◌≤◌, Bool, true, false, cond, not, inl, inr, List, [], ◌∷◌, ◌++◌, length, Option, Some, None, Result, Ok, Err, refl, sym, ap, subst, ◌∙◌, arith, length-append, is_some}
use Rattle.model_splitter.proofs.tree_lemmas.WorldCommon.{fun_ext, Read, Answer, Note, Quiet, Participant, Record, Refusal, participant_of, beginner, MemorySteps, Spares, set_at, begin_refusal, begun_unless, done_unless, EndsOnce, run_keeps, participant_of-push, length-with_participant, TreeRegister, Mark, X, Y, Contents, TreeValue, word_in, Walker, Collect, Client, Task, Placing, Nothing, Storing, IsTreeMemory, IsEmptyTree, walk_of, next_access, walker_after, walker_note, place_of, place_by, client_of, is_placing, is_placed, collecting, collecting_after, with_task, write_at, record_of, task_after, collect_reads, collect_after, collect_view, TreeState, Run, fresh_over, TreeCall, next, IsReply, TreeBegan, TreeStepped, Stored, CollectBegan, CollectStepped, IsTree, IsConsistent, accesses_by, way_calls, PlacesSpec, walker_in, walkers}
use Rattle.std.proofs.lemmas.List.{append-nil}
use Rattle.model_steps.specs.Calls.{Call, steps_by, outcome_by, outcome_in, begun_in, begun_by}
use Rattle.model_steps.specs.Calls.Call.{Began, Stepped}
use Rattle.model_steps.proofs.cited.SetAtLemmas.{set_at-cases, set_at-map, set_at-as_is}
use Rattle.model_steps.specs.Reported.{Tells}
use Rattle.model_steps.proofs.cited.ReportedLemmas.{reported_quiet, reported_begun, reported_stepped}
use Rattle.model_steps.proofs.cited.WorldKeeps.{begun_in-push, IsLetIn, let_in}
use Rattle.model_splitter.proofs.cited.tree.nodes.ConsistentKept.{consistent_new, begun, gone_on, elsewhere}
use Rattle.model_splitter.proofs.cited.tree.nodes.TreeLaw.{tree_law, nearer}
use Rattle.model_splitter.proofs.cited.tree.nodes.WalkerLemmas.{place_is_reported}
use Rattle.model_splitter.proofs.tree_lemmas.CallCases.{GoesOn, IsStep, got_on, walked_on, read_by, turned, turned_stands, step_cases, store_cases, collect_begin_cases, collect_step_cases}

abbrev pub is_storing : Task → Bool
is_storing (Storing value) = true
is_storing task = false

-- a participant goes on for ever, is on its way just while its walk has no place, and between calls writes nothing
pub record IsClient (v : Participant Client) : Type 0 where
  pub goes : v.ended ≡ false
  pub task : is_placing v.program.task ≡ not (is_some (place_of v.program.walker))
  pub stores : is_storing v.program.task ≡ false

-- the way's part of two lists, one after the other
pub way_calls-append : (r t : List TreeCall) → way_calls (r ++ t) ≡ way_calls r ++ way_calls t
way_calls-append [] t = refl
way_calls-append (TreeBegan id reply ∷ r) t = ap (λ (c : List (Call (Option ℕ))). Began id reply ∷ c) (way_calls-append r t)
way_calls-append (TreeStepped id reply ∷ r) t = ap (λ (c : List (Call (Option ℕ))). Stepped id reply ∷ c) (way_calls-append r t)
way_calls-append (h ∷ r) t = way_calls-append r t

-- a call that is no part of the way leaves it
pub no_way : (r : List TreeCall) (h : TreeCall) → way_calls (h ∷ []) ≡ [] → way_calls (r ++ h ∷ []) ≡ way_calls r
no_way r h none = way_calls-append r (h ∷ []) ∙ ap (λ c. way_calls r ++ c) none ∙ append-nil (way_calls r)

-- what one does after a read of its collect
pub left_by_read : (collect : Collect) (shown : Option (List (ℕ × ℕ))) → (is_placing (task_after collect shown) ≡ false) × (is_storing (task_after collect shown) ≡ false)
left_by_read collect None = (refl, refl)
left_by_read collect (Some view) = (refl, refl)

-- and after a step on its way
left_on_way : (b : Bool) → (is_placing (cond b Nothing Placing) ≡ not b) × (is_storing (cond b Nothing Placing) ≡ false)
left_on_way true = (refl, refl)
left_on_way false = (refl, refl)

placed_by_note : (n : Note ℕ) → is_placed n ≡ is_some (outcome_in n)
placed_by_note Quiet = refl
placed_by_note n = refl

pub no_place : (o : Option ℕ) → not (is_some o) ≡ true → o ≡ None
no_place None h = refl
no_place (Some k) h = absurd (cc)

-- the write of a segment spares every other register
pub write_spares : (place : Option ℕ) (x : Record) (r : TreeRegister) → ((k : ℕ) → place ≡ Some k → r ≢ Contents k) → Spares (write_at place x) r
write_spares None x r h = tt
write_spares (Some place) x r h = h place refl

-- a participant has become another
module _ {S : Type 0} (w : TreeState S) (s : S) (id : ℕ) (who : Participant Client) (c : Client) (here : participant_of id w.participants ≡ Some who) where
  pub walkers_turned : walkers (turned w s id c).participants ≡ set_at (walkers w.participants) id (Some c.walker)
  walkers_turned = fun_ext (λ q. ap walker_in (turned_stands w s id c who here q) ∙ set_at-map walker_in (λ u. participant_of u w.participants) id (Some (beginner id c)) q)

  pub walkers_kept : c.walker ≡ who.program.walker → walkers (turned w s id c).participants ≡ walkers w.participants
  walkers_kept walk = walkers_turned ∙ set_at-as_is (walkers w.participants) id (Some c.walker) (ap (λ (u : Walker). Some u) walk ∙ sym (ap walker_in here))

  clients_turned : ((p : ℕ) (u : Participant Client) → participant_of p w.participants ≡ Some u → IsClient u) → IsClient (beginner id c) →
      (p : ℕ) (u : Participant Client) → participant_of p (turned w s id c).participants ≡ Some u → IsClient u
  clients_turned old new p u h = set_at-cases (λ z. participant_of z w.participants) id (Some (beginner id c)) (λ o. o ≡ Some u → IsClient u) p
      (λ _ k. let same : beginner id c ≡ u = cc in subst IsClient same new) (λ _ k. old p u k) (sym (turned_stands w s id c who here p) ∙ h)

-- another memory has the same in every register but segments
abbrev pub SparesNodes : {S : Type 0} → MemorySteps S TreeRegister TreeValue → S → S → Type 0
SparesNodes memory s other = (r : TreeRegister) → ((k : ℕ) → r ≢ Contents k) → memory.register other r ≡ memory.register s r

-- so nodes and walks are consistent in it too
aside : {S : Type 0} (memory : MemorySteps S TreeRegister TreeValue) (most b : ℕ) (s : S) (walker : ℕ → Option Walker) → IsConsistent memory most b s walker →
    (other : S) → SparesNodes memory s other → IsConsistent memory most b other walker
aside {S = S} memory most b s walker c other spares =
    let words : (ℕ → TreeRegister) → S → ℕ → ℕ = λ kind m k. word_in (memory.register m (kind k)).0 in
    let same : (kind : ℕ → TreeRegister) → ((k j : ℕ) → kind k ≢ Contents j) → words kind other ≡ words kind s =
    λ kind apart. fun_ext (λ k. ap (λ (x : TreeValue × Bool). word_in x.0) (spares (kind k) (apart k))) in
    elsewhere memory most b s walker c other (same Mark (λ k j h. absurd (cc))) (same X (λ k j h. absurd (cc))) (same Y (λ k j h. absurd (cc)))

module _ {S : Type 0} (memory : MemorySteps S TreeRegister TreeValue) (tree : IsTreeMemory memory) where
  -- the walks and the nodes are consistent, and agree with the calls
  pub record IsTied (w : TreeState S) (r : List TreeCall) : Type 0 where
    pub consistent : IsConsistent memory w.most (length w.participants) w.memory (walkers w.participants)
    pub begun_is : begun_in (way_calls r) ≡ length w.participants
    pub clients : (p : ℕ) (v : Participant Client) → participant_of p w.participants ≡ Some v → IsClient v
    pub reported : Tells place_by (λ _. 0) accesses_by (walkers w.participants) (way_calls r)

  -- a store and a read leave the nodes, but for segments
  pub store_spares : (s : S) (place : Option ℕ) (x : Record) → SparesNodes memory s (memory.after s (write_at place x))
  store_spares s place x r other = tree.others s (write_at place x) r (write_spares place x r (λ k _. other k))

  pub read_spares : (s : S) (read : TreeRegister) → SparesNodes memory s (memory.after s (Read read))
  read_spares s read r other = tree.others s (Read read) r tt

  -- nobody's program ends
  pub all_go : (w : TreeState S) (r : List TreeCall) → IsTied w r → GoesOn w
  all_go w r t id v e = (t.clients id v e).goes

  -- a call of `begin` or `step` that is refused
  refused_way : (w : TreeState S) (r : List TreeCall) (h : TreeCall) (k : Call (Option ℕ)) → way_calls (h ∷ []) ≡ k ∷ [] →
      ((p : ℕ) → steps_by p k ≡ 0) → ((p : ℕ) → outcome_by p k ≡ None) → begun_by k ≡ 0 → IsTied w r → IsTied w (r ++ h ∷ [])
  refused_way w r h k is none quiet nobody t =
      let way : way_calls (r ++ h ∷ []) ≡ way_calls r ++ k ∷ [] = way_calls-append r (h ∷ []) ∙ ap (λ c. way_calls r ++ c) is in
      record {
        consistent = t.consistent;
        begun_is = rw way (omega (arith, begun_in-push (way_calls r) k, nobody, t.begun_is));
        clients = t.clients;
        reported = rw way (reported_quiet place_by (λ _. 0) accesses_by (walkers w.participants) (way_calls r) t.reported k none quiet);
      }

  -- a call of the others that is refused
  refused_other : (w : TreeState S) (r : List TreeCall) (h : TreeCall) → way_calls (h ∷ []) ≡ [] → IsTied w r → IsTied w (r ++ h ∷ [])
  refused_other w r h none t = record { consistent = t.consistent; begun_is = rw (no_way r h none) t.begun_is; clients = t.clients; reported = rw (no_way r h none) t.reported }

  -- a call that is no step on the way, of one who has its place
  aside_kept : (w : TreeState S) (s : S) (id : ℕ) (who : Participant Client) (c : Client) → participant_of id w.participants ≡ Some who →
      (r : List TreeCall) (h : TreeCall) → c.walker ≡ who.program.walker → is_placing who.program.task ≡ false → is_placing c.task ≡ false → is_storing c.task ≡ false →
      SparesNodes memory w.memory s → way_calls (h ∷ []) ≡ [] → IsTied w r → IsTied (turned w s id c) (r ++ h ∷ [])
  aside_kept w s id who c here r h walk placed placing stores spares none t =
      let way = no_way r h none in
      let walks = walkers_kept w s id who c here walk in
      let many = length-with_participant w.participants (beginner id c) in
      record {
        consistent = rw (walks, many) (aside memory w.most (length w.participants) w.memory (walkers w.participants) t.consistent s spares);
        begun_is = rw way (t.begun_is ∙ sym many);
        clients = clients_turned w s id who c here t.clients (record { goes = refl; task = placing ∙ sym placed ∙ (t.clients id who here).task ∙ ap (λ (u : Walker). not (is_some (place_of u))) (sym walk); stores = stores });
        reported = rw (way, walks) t.reported;
      }

  -- one who begins
  begun_kept : (w : TreeState S) (r : List TreeCall) (id : ℕ) → IsLetIn w id → IsTied w r →
      IsTied (record { memory = w.memory; most = w.most; participants = w.participants ++ beginner id (client_of id) ∷ [] }) (r ++ TreeBegan id (Ok tt) ∷ [])
  begun_kept w r id in_ t =
      let new : Participant Client = beginner id (client_of id) in
      let way : way_calls (r ++ TreeBegan id (Ok tt) ∷ []) ≡ way_calls r ++ Began id (Ok tt) ∷ [] = way_calls-append r (TreeBegan id (Ok tt) ∷ []) in
      let push = participant_of-push w.participants new in_.absent in
      let longer : length (w.participants ++ new ∷ []) ≡ suc (length w.participants) = omega (arith, length-append w.participants (new ∷ [])) in
      let walks : walkers (w.participants ++ new ∷ []) ≡ set_at (walkers w.participants) id (Some (walk_of id)) = fun_ext (λ q. ap walker_in (push q) ∙ set_at-map walker_in (λ u. participant_of u w.participants) id (Some new) q) in
      let absent : walkers w.participants id ≡ None = ap walker_in in_.absent in
      record {
        consistent = rw (longer, walks) (begun memory w.most (length w.participants) w.memory (walkers w.participants) t.consistent id in_.not_zero absent in_.room);
        begun_is = rw way (omega (arith, begun_in-push (way_calls r) (Began id (Ok tt)), t.begun_is, longer));
        clients = λ p v h. set_at-cases (λ z. participant_of z w.participants) id (Some new) (λ o. o ≡ Some v → IsClient v) p
            (λ _ k. let is : new ≡ v = cc in subst IsClient is (record { goes = refl; task = refl; stores = refl })) (λ _ k. t.clients p v k) (sym (push p) ∙ h);
        reported = rw (way, walks) (reported_begun place_by (λ _. 0) accesses_by (walkers w.participants) (way_calls r) t.reported id (Some (walk_of id)) (ap place_by absent) (omega arith) (rw absent (omega arith)));
      }

  -- an accepted step on the way to a place
  going_kept : (w : TreeState S) (r : List TreeCall) (id : ℕ) (reply : Result (Option ℕ) Refusal) (new : TreeState S) (x : IsStep memory w id reply new) → IsTied w r →
      IsTied (turned w (memory.after w.memory (next_access x.who.program.walker)) id (walked_on memory w id x.who.program.walker))
      (r ++ TreeStepped id (Ok (outcome_in (walker_note x.who.program.walker (got_on memory w id x.who.program.walker)))) ∷ [])
  going_kept w r id reply new x t =
      let u : Walker = x.who.program.walker in
      let got : Answer TreeValue = got_on memory w id u in
      let said : Option ℕ = outcome_in (walker_note u got) in
      let is : walkers w.participants id ≡ Some u = ap walker_in x.here in
      let on : place_of u ≡ None = no_place (place_of u) (sym (t.clients id x.who x.here).task ∙ ap is_placing x.task) in
      let reported = place_is_reported u got on in
      let left = left_on_way (is_placed (walker_note u got)) in
      let way : way_calls (r ++ TreeStepped id (Ok said) ∷ []) ≡ way_calls r ++ Stepped id (Ok said) ∷ [] = way_calls-append r (TreeStepped id (Ok said) ∷ []) in
      let s : S = memory.after w.memory (next_access u) in
      let walks = walkers_turned w s id x.who (walked_on memory w id u) x.here in
      let many = length-with_participant w.participants (beginner id (walked_on memory w id u)) in
      record {
        consistent = rw (many, walks) (gone_on memory w.most (length w.participants) w.memory (walkers w.participants) t.consistent tree id u is);
        begun_is = rw way (omega (arith, begun_in-push (way_calls r) (Stepped id (Ok said)), t.begun_is, many));
        clients = clients_turned w s id x.who (walked_on memory w id u) x.here t.clients (record { goes = refl; task = left.0 ∙ ap not (placed_by_note (walker_note u got) ∙ ap is_some reported); stores = left.1 });
        reported = rw (way, walks) (reported_stepped place_by (λ _. 0) accesses_by (walkers w.participants) (way_calls r) t.reported id (Some (walker_after u got)) said
            (ap place_by is ∙ on) reported (omega arith) (rw is (nearer memory w.most (length w.participants) w.memory (walkers w.participants) t.consistent id u is on got)));
      }

  -- each call keeps the tie
  pub call_kept : (w : TreeState S) (r : List TreeCall) (h : TreeCall) → IsTied w r → IsReply memory w h → IsTied (next memory w h) (r ++ h ∷ [])
  call_kept w r (TreeBegan id reply) t is = rw is (
      elim (begin_refusal w id) as (λ o. begin_refusal w id ≡ o → IsTied (begun_unless o w id (client_of id)) (r ++ TreeBegan id (done_unless o) ∷ [])) [
        | Some why ↦ λ _. refused_way w r (TreeBegan id (Err why)) (Began id (Err why)) refl (λ _. refl) (λ _. refl) refl t
        | None ↦ λ e. begun_kept w r id (let_in w id e) t
      ] refl)
  call_kept w r (TreeStepped id reply) t is = elim (step_cases memory w id (all_go w r t) reply is) [
    | inl x ↦ rw (x.same, x.is) (refused_way w r (TreeStepped id (Err x.why)) (Stepped id (Err x.why)) refl (λ _. refl) (λ _. refl) refl t)
    | inr x ↦ rw (x.after, x.is) (going_kept w r id reply (next memory w (TreeStepped id reply)) x t)
  ]
  call_kept w r (Stored id value reply) t is = elim (store_cases memory w id value reply is) [
    | inl x ↦ rw x.same (refused_other w r (Stored id value reply) refl t)
    | inr x ↦ rw x.after (aside_kept w (memory.after w.memory (write_at (place_of x.who.program.walker) (record_of x.who.program value))) id x.who (with_task x.who.program Nothing) x.here r (Stored id value reply)
        refl (ap is_placing x.task) refl refl (store_spares w.memory (place_of x.who.program.walker) (record_of x.who.program value)) refl t)
  ]
  call_kept w r (CollectBegan id reply) t is = elim (collect_begin_cases memory w id reply is) [
    | inl x ↦ rw x.same (refused_other w r (CollectBegan id reply) refl t)
    | inr x ↦ rw x.after (aside_kept w w.memory id x.who (collecting x.who.program) x.here r (CollectBegan id reply) refl (ap is_placing x.task) refl refl (λ q other. refl) refl t)
  ]
  call_kept w r (CollectStepped id reply) t is = elim (collect_step_cases memory w id (all_go w r t) reply is) [
    | inl x ↦ rw x.same (refused_other w r (CollectStepped id reply) refl t)
    | inr x ↦
        let got : TreeValue = read_by memory w id x.collect in
        let left = left_by_read (collect_after x.collect got) (collect_view x.collect got) in
        rw x.after (aside_kept w (memory.after w.memory (Read (collect_reads x.collect))) id x.who (collecting_after x.who.program x.collect got) x.here r (CollectStepped id reply)
        refl (ap is_placing x.task) left.0 left.1 (read_spares w.memory (collect_reads x.collect)) refl t)
  ]

  -- a tree of no nodes
  pub tied_new : (first : S) (most : ℕ) → IsEmptyTree memory first → most ≤ 64 → IsTied (record { memory = first; most = most; participants = [] }) []
  tied_new first most empty few = record {
    consistent = consistent_new memory most first empty few;
    begun_is = refl;
    clients = λ p v h. absurd (cc);
    reported = record { outcomes = λ p. refl; at_least = λ p. omega arith; at_most = λ p. omega arith };
  }

  -- a world that is after these calls is tied to them
  pub tied_after : (first : S) (most : ℕ) (w : TreeState S) (r : List TreeCall) → IsEmptyTree memory first → most ≤ 64 → Run (next memory) (IsReply memory) (fresh_over memory (first, most)) r w → IsTied w r
  tied_after first most w r empty few a = run_keeps (next memory) (IsReply memory) IsTied call_kept (fresh_over memory (first, most)) [] r w (tied_new first most empty few) a

  -- the nodes and walks of a world that is tied keep the law of the tree
  pub tree_of_tied : (w : TreeState S) (r : List TreeCall) → IsTied w r → IsTree memory (begun_in (way_calls r)) w.memory (walkers w.participants)
  tree_of_tied w r t = subst (λ (n : ℕ). IsTree memory n w.memory (walkers w.participants)) (sym t.begun_is) (tree_law memory w.most (length w.participants) w.memory (walkers w.participants) t.consistent)

  -- the steps of one are at most the accesses that its walk may have made, so the law of the walks is that of the calls
  pub law_of_tied : (w : TreeState S) (r : List TreeCall) → IsTied w r → EndsOnce is_some (way_calls r) → PlacesSpec r
  law_of_tied w r t once =
      let law = tree_of_tied w r t in
      record {
        distinct = λ p q place h k. law.distinct p q place (sym (t.reported.outcomes p) ∙ h) (sym (t.reported.outcomes q) ∙ k);
        within = λ p place h. law.within p place (sym (t.reported.outcomes p) ∙ h);
        at_most = λ p. omega (arith, t.reported.at_most p, law.at_most p);
        last_places = λ p some all. rw (t.reported.outcomes p) (law.last_places p (omega (arith, t.reported.at_most p, some)) (omega (arith, t.reported.at_most p, law.at_most p, all)));
        ends_once = once;
      }
