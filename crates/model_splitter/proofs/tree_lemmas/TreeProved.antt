-- the world of a tree is proved
use Rattle.std.proofs.Common.{◌≡◌, ◌≢◌, ◌≤◌, ℕ, Bool, true, false, cond, inl, inr, List, [], ◌∷◌, ◌++◌, Option, Some, None, Result, Ok, Err, refl, sym, ap, subst, ◌∙◌, arith, ne_eqb, option_map, option_and_then, is_some, nat_le}
use Rattle.model_splitter.proofs.tree_lemmas.WorldCommon.{nat_tests, PlacesSpec, way_calls, walker_in, TreeCall, Began, Stepped, Stored, CollectBegan, CollectStepped, tree_steps, empty_tree, TreeRegister, TreeValue, TreeRefusesAsDue, place_of, place_by, Client, EndsOnce, client_steps, is_placing, is_collecting, place_reported, MemorySteps, Refusal, NoMemory, Finished, participant_of, program_of, Participant}
use Rattle.model_splitter.specs.tree.Machine.{TreeWorldState, HasLawfulNodes, fresh_over, tree, tree_over}
use Rattle.model_splitter.specs.tree.TreeWorld.{TreeState, after_tree_begin, asking_refusal, place_answer, place_answer_by, after_placing, after_placing_by, may_lack_memory, after_store, after_collect_begin, view_answer, after_collecting, after_collecting_by}
use Rattle.model_splitter.proofs.tree_lemmas.CollectSteps.{collect_law}
use Rattle.model_splitter.proofs.tree_lemmas.PlacesTied.{IsTied, tied_after, tree_of_tied, way_calls-append}
use Rattle.model_splitter.proofs.tree_lemmas.DueTied.{world_counted, places_law}
use Rattle.model_splitter.proofs.cited.tree.TreeMemoryLemmas.{tree_memory, tree_empty}
use Rattle.model_steps.specs.Calls.{Call, outcome_of, lacked_memory, reply_of}
use Rattle.model_steps.specs.Calls.Call.{Stepped as WayStepped}
use Rattle.model_steps.specs.Machine.{Reaches, OnEveryHistory, SatisfiesSpec, Extends, RefusesWhereDue, IsProved}
use Rattle.model_steps.specs.World.{begin_refusal, done_unless, step_answer, after_step}
use Rattle.model_splitter.specs.tree.WorldLaws.{StaysAlikeOnWay, StaysAlikeCollecting}
use Rattle.model_steps.proofs.cited.StepLemmas.{lacks_none, lacks_or_not}
use Rattle.model_steps.specs.Locality.{Indistinguishable, StandAlike}
use Rattle.model_steps.proofs.cited.LocalityLemmas.{stand_alike}
use Rattle.model_steps.proofs.cited.DueLemmas.{no_second_end}
use Rattle.model_steps.proofs.cited.MachineLemmas.{call_leads_on, machine_proved}

module _ {S : Type 0} (memory : MemorySteps S TreeRegister TreeValue) where
  -- a world is tied to its calls
  pub tied : (w : TreeState S) (first : S × ℕ) (r : List TreeCall) (a : Reaches (tree_over memory) first w r) → IsTied memory a.started.tree w r
  tied w first r a = tied_after memory a.started.tree first.0 first.1 w r a.started.empty a.started.few a.run

  law_always : (w : TreeState S) → SatisfiesSpec (tree_over memory) w
  law_always w first r a = record {
    places = places_law memory a.started.tree first.1 first.0 w r a.started.empty a.started.few a.run;
    collects = collect_law memory a.started.tree first.0 first.1 w r a.started.few a.started.empty a.run;
  }

  due_always : (w : TreeState S) → RefusesWhereDue (tree_over memory) w
  due_always w first r a = (world_counted memory a.started.tree first.1 first.0 w r a.started.empty a.started.few a.run).due

  pub trees_proved : IsProved (tree_over memory)
  trees_proved = machine_proved (tree_over memory) law_always due_always

pub tree_law : (w : TreeWorldState) → SatisfiesSpec tree w
tree_law = law_always tree_steps

pub tree_due : (w : TreeWorldState) → RefusesWhereDue tree w
tree_due = due_always tree_steps

pub tree_nodes : (w : TreeWorldState) → HasLawfulNodes w
tree_nodes w first r a = tree_of_tied tree_steps a.started.tree w r (tied tree_steps w first r a)

-- each call leads on
pub tree_begins : (w new : TreeWorldState) (id : ℕ) (reply : Result (Unit {0}) Refusal) → new ≡ after_tree_begin w id → reply ≡ done_unless (begin_refusal w id) → Extends tree w new (Began id reply)
tree_begins w new id reply = call_leads_on tree w new (Began id reply)

lacks_no_place : (w : TreeWorldState) (id : ℕ) (o : Option Client) → lacked_memory (place_answer_by tree_steps w id o) ≡ false
lacks_no_place w id None = refl
lacks_no_place w id (Some c) = elim (is_placing c.task) as (λ b. lacked_memory (cond b (reply_of place_reported (step_answer client_steps tree_steps w id)) (Err Finished)) ≡ false)
    [ true ↦ lacks_none client_steps tree_steps place_reported w id | false ↦ refl ]

pub tree_goes_on : (w new : TreeWorldState) (id : ℕ) (reply : Result (Option ℕ) Refusal) → (reply ≢ Err NoMemory → new ≡ after_placing tree_steps w id) → (reply ≢ Err NoMemory → reply ≡ place_answer tree_steps w id) →
    (reply ≡ Err NoMemory → new ≡ w) → (reply ≡ Err NoMemory → may_lack_memory tree_steps w id ≡ true) → Extends tree w new (Stepped id reply)
tree_goes_on w new id reply state answer kept lack = elim (lacks_or_not reply) [
  | inr goes ↦
      let fine : lacked_memory reply ≡ false = ap lacked_memory (answer goes) ∙ lacks_no_place w id (program_of id w.participants) in
      call_leads_on tree w new (Stepped id reply) (state goes ∙ rw fine refl) (inl (answer goes))
  | inl lacks ↦
      let lacked : lacked_memory reply ≡ true = rw lacks refl in
      call_leads_on tree w new (Stepped id reply) (kept lacks ∙ rw lacked refl) (inr (lacks, lack lacks))
]

pub tree_stores : (w new : TreeWorldState) (id value : ℕ) (reply : Result (Unit {0}) Refusal) → new ≡ after_store tree_steps w id value → reply ≡ done_unless (asking_refusal w id) → Extends tree w new (Stored id value reply)
tree_stores w new id value reply = call_leads_on tree w new (Stored id value reply)

pub tree_collects : (w new : TreeWorldState) (id : ℕ) (reply : Result (Unit {0}) Refusal) → new ≡ after_collect_begin w id → reply ≡ done_unless (asking_refusal w id) → Extends tree w new (CollectBegan id reply)
tree_collects w new id reply = call_leads_on tree w new (CollectBegan id reply)

pub tree_reads_on : (w new : TreeWorldState) (id : ℕ) (reply : Result (Option (List (ℕ × ℕ))) Refusal) → new ≡ after_collecting tree_steps w id → reply ≡ view_answer tree_steps w id →
    Extends tree w new (CollectStepped id reply)
tree_reads_on w new id reply = call_leads_on tree w new (CollectStepped id reply)

-- where a participant stands after its step in two worlds that look alike to it
module _ (w other : TreeWorldState) (id : ℕ) (alike : Indistinguishable client_steps tree_steps id w other) where
  same_program : program_of id w.participants ≡ program_of id other.participants
  same_program = ap (option_map (λ p. p.program)) alike.participant

  step_or_not : (b : Bool) → StandAlike id (cond b (after_step client_steps tree_steps w id) w) (cond b (after_step client_steps tree_steps other id) other)
  step_or_not true = stand_alike client_steps tree_steps id w other alike
  step_or_not false = alike.participant

  placing_by : (o : Option Client) → StandAlike id (after_placing_by tree_steps w id o) (after_placing_by tree_steps other id o)
  placing_by None = alike.participant
  placing_by (Some c) = step_or_not (is_placing c.task)

  placing_stands : StandAlike id (after_placing tree_steps w id) (after_placing tree_steps other id)
  placing_stands = placing_by (program_of id w.participants) ∙ ap (λ (o : Option Client). participant_of id (after_placing_by tree_steps other id o).participants) same_program

  collecting_by : (o : Option Client) → StandAlike id (after_collecting_by tree_steps w id o) (after_collecting_by tree_steps other id o)
  collecting_by None = alike.participant
  collecting_by (Some c) = step_or_not (is_collecting c.task)

  collecting_stands : StandAlike id (after_collecting tree_steps w id) (after_collecting tree_steps other id)
  collecting_stands = collecting_by (program_of id w.participants) ∙ ap (λ (o : Option Client). participant_of id (after_collecting_by tree_steps other id o).participants) same_program

-- who stands in the new world after its step stands alike in each world that looked alike to it
pub tree_stays : (w new : TreeWorldState) (id : ℕ) → new ≡ after_placing tree_steps w id → StaysAlikeOnWay w new id
tree_stays w new id e other h = ap (λ (v : TreeWorldState). participant_of id v.participants) e ∙ placing_stands w other id h

pub tree_stays_collecting : (w new : TreeWorldState) (id : ℕ) → new ≡ after_collecting tree_steps w id → StaysAlikeCollecting w new id
tree_stays_collecting w new id e other h = ap (λ (v : TreeWorldState). participant_of id v.participants) e ∙ collecting_stands w other id h

-- what the contracts of its calls are proved by
pub ruleset tree_contracts = (tree_law, tree_due, tree_nodes, tree_begins, tree_stays, tree_stays_collecting)

-- a tree of no nodes is after no call
pub tree_starts : (most : ℕ) (w : TreeWorldState) → w ≡ fresh_over tree_steps (empty_tree, most) → most ≤ 64 → Reaches tree (empty_tree, most) w []
tree_starts most w is few = record { started = record { tree = tree_memory; empty = tree_empty; few = few }; run = is }

place_by_walk : (o : Option (Participant Client)) → option_and_then (λ c. place_of c.walker) (option_map (λ p. p.program) o) ≡ place_by (walker_in o)
place_by_walk None = refl
place_by_walk (Some p) = refl

-- the place of a participant is the one that was answered
pub place_answered : (w : TreeWorldState) (id : ℕ) → OnEveryHistory tree (λ first r. option_and_then (λ c. place_of c.walker) (program_of id w.participants) ≡ outcome_of id (way_calls r)) w
place_answered w id first r a = place_by_walk (participant_of id w.participants) ∙ sym ((tied tree_steps w first r a).reported.outcomes id)

-- nobody gets a second place
pub one_place_reported : (p a b : ℕ) (before between rest : List TreeCall) → PlacesSpec (before ++ Stepped p (Ok (Some a)) ∷ (between ++ Stepped p (Ok (Some b)) ∷ rest)) → ⊥
one_place_reported p a b before between rest law =
    let later : TreeCall = Stepped p (Ok (Some b)) in
    let way : way_calls (before ++ Stepped p (Ok (Some a)) ∷ (between ++ later ∷ rest)) ≡ way_calls before ++ WayStepped p (Ok (Some a)) ∷ (way_calls between ++ WayStepped p (Ok (Some b)) ∷ way_calls rest) =
    way_calls-append before (Stepped p (Ok (Some a)) ∷ (between ++ later ∷ rest))
    ∙ ap (λ (c : List (Call (Option ℕ))). way_calls before ++ WayStepped p (Ok (Some a)) ∷ c) (way_calls-append between (later ∷ rest)) in
    no_second_end is_some p (Some a) (Some b) (way_calls before) (way_calls between) (way_calls rest) refl (subst (λ (c : List (Call (Option ℕ))). EndsOnce is_some c) way law.ends_once)

-- nor is whoever comes first refused
pub not_first_refused : (most p : ℕ) (why : Refusal) (rest : List TreeCall) → 1 ≤ most → p ≢ 0 → TreeRefusesAsDue most (Began p (Err why) ∷ rest) → ⊥
not_first_refused most p why rest room some due =
    let is = due [] (Began p (Err why)) rest refl in
    let free : nat_le most 0 ≡ false = grind (arith, nat_tests) in
    let never : Err why ≡ Ok tt = rw (ne_eqb p 0 some, free) at is in
    cc
