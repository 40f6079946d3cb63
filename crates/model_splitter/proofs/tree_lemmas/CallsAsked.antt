-- what the calls of a tree's world answer and leave, by what the participant has to do
use Rattle.std.proofs.Common.{◌≡◌, ◌≢◌, ℕ, Bool, true, false, cond, List, Option, Some, None, Result, Ok, Err, OnErr, refl, sym, ap, subst, ◌∙◌, option_map}
use Rattle.std.proofs.lemmas.Option.{same_Some, none-some}
use Rattle.model_splitter.proofs.tree_lemmas.WorldCommon.{Refusal, NotBegun, AlreadyBegun, Finished, NoMemory, Note, Participant, participant_of, program_of, Client, Task, Placing, Nothing, Storing, Collecting, NodeMap, TreeWorldState, tree_steps, may_refuse, client_steps, access_for, is_placing, is_collecting, place_reported, storing, collecting, done_unless, after_set}
use Rattle.model_splitter.specs.tree.Client.{view_reported, is_idle}
use Rattle.model_splitter.specs.declared.tree.client.TreeReply.{TreeReply}
use Rattle.model_splitter.specs.tree.TreeWorld.{place_answer, place_answer_by, after_placing, view_answer, view_answer_by, after_collecting, asking_refusal, refusal_unless, after_store, after_collect_begin}
use Rattle.model_splitter.proofs.tree_lemmas.StoreLemmas.{store_goes_well}
use Rattle.model_steps.specs.Calls.{reply_of}
use Rattle.model_steps.specs.World.{step_answer, after_step, may_refuse_by, may_refuse_step, set_answer, set_answer_by}
use Rattle.model_steps.specs.Locality.{Indistinguishable}
use Rattle.model_steps.proofs.cited.LocalityLemmas.{answers_alike}

-- a read of a collect makes no node
read_fits : (m : NodeMap) (c : Client) (task : Task) → is_collecting task ≡ true → may_refuse m (access_for c task) ≡ false
read_fits m c Placing h = absurd (cc)
read_fits m c Nothing h = absurd (cc)
read_fits m c (Storing value) h = absurd (cc)
read_fits m c (Collecting collect) h = refl

-- who is refused a call that takes a certain task is nobody, or has another task
refused_by : (fits : Task → Bool) (wrong why : Refusal) (P : Refusal → Type 0) (o : Option Client) → refusal_unless fits wrong o ≡ Some why →
    (o ≡ None → P NotBegun) → ((c : Client) → o ≡ Some c → fits c.task ≡ false → P wrong) → P why
refused_by fits wrong why P None e nobody other = subst P (same_Some NotBegun why e) (nobody refl)
refused_by fits wrong why P (Some c) e nobody other =
    elim (fits c.task) as (λ b. fits c.task ≡ b → cond b None (Some wrong) ≡ Some why → P why)
    [ true ↦ λ _ h. absurd (cc) | false ↦ λ other_task h. subst P (same_Some wrong why h) (other c refl other_task) ] refl e

module _ (w : TreeWorldState) (id : ℕ) where
  -- a step on the way to a place
  pub record PlaceStep (new : TreeWorldState) (reply : Result (Option ℕ) Refusal) : Type 0 where
    pub answer : reply ≢ Err NoMemory → reply ≡ place_answer tree_steps w id
    pub state : reply ≢ Err NoMemory → new ≡ after_placing tree_steps w id

  -- a step of a collect
  pub record CollectStep (new : TreeWorldState) (reply : Result (Option (List (ℕ × ℕ))) Refusal) : Type 0 where
    pub answer : reply ≡ view_answer tree_steps w id
    pub state : new ≡ after_collecting tree_steps w id

  -- of nobody, and of one who has something else to do
  no_way_of_nobody : program_of id w.participants ≡ None → PlaceStep w (Err NotBegun)
  no_way_of_nobody e = record { answer = λ goes. rw e refl; state = λ goes. rw e refl }

  no_way_of_other : (c : Client) → program_of id w.participants ≡ Some c → is_placing c.task ≡ false → PlaceStep w (Err Finished)
  no_way_of_other c e busy = record { answer = λ goes. rw (e, busy) refl; state = λ goes. rw (e, busy) refl }

  no_collect_of_nobody : program_of id w.participants ≡ None → CollectStep w (Err NotBegun)
  no_collect_of_nobody e = record { answer = rw e refl; state = rw e refl }

  no_collect_of_other : (c : Client) → program_of id w.participants ≡ Some c → is_collecting c.task ≡ false → CollectStep w (Err Finished)
  no_collect_of_other c e busy = record { answer = rw (e, busy) refl; state = rw (e, busy) refl }

  -- of one who is refused for this reason
  pub no_way : (why : Refusal) → refusal_unless is_placing Finished (program_of id w.participants) ≡ Some why → PlaceStep w (Err why)
  no_way why e = refused_by is_placing Finished why (λ r. PlaceStep w (Err r)) (program_of id w.participants) e no_way_of_nobody no_way_of_other

  pub not_for_memory : (why : Refusal) → refusal_unless is_placing Finished (program_of id w.participants) ≡ Some why → why ≢ NoMemory
  not_for_memory why e = refused_by is_placing Finished why (λ r. r ≢ NoMemory) (program_of id w.participants) e (λ _ h. absurd (cc)) (λ c _ _ h. absurd (cc))

  pub no_collect : (why : Refusal) → refusal_unless is_collecting Finished (program_of id w.participants) ≡ Some why → CollectStep w (Err why)
  no_collect why e = refused_by is_collecting Finished why (λ r. CollectStep w (Err r)) (program_of id w.participants) e no_collect_of_nobody no_collect_of_other

  collect_fits : (o : Option (Participant Client)) (c : Client) → option_map (λ p. p.program) o ≡ Some c → is_collecting c.task ≡ true → may_refuse_by client_steps tree_steps w.memory o ≡ false
  collect_fits None c e on = refl
  collect_fits (Some p) c e on =
      let same : p.program ≡ c = same_Some p.program c e in
      elim p.ended as (λ b. cond b false (may_refuse w.memory (access_for p.program p.program.task)) ≡ false) [ true ↦ refl | false ↦ read_fits w.memory p.program p.program.task (rw same on) ]

  -- of one who is on its way or collects, whose step of the world is answered so
  module _ (c : Client) (here : program_of id w.participants ≡ Some c) (new : TreeWorldState) (result : Result (Note TreeReply) Refusal)
      (answer : result ≢ Err NoMemory → result ≡ step_answer client_steps tree_steps w id) (after : result ≢ Err NoMemory → new ≡ after_step client_steps tree_steps w id) where
    pub way_step : is_placing c.task ≡ true → (reply : Result (Option ℕ) Refusal) → reply ≡ reply_of place_reported result → PlaceStep new reply
    way_step on reply is =
        let made : reply ≢ Err NoMemory → result ≢ Err NoMemory = λ goes e. goes (is ∙ ap (reply_of place_reported) e) in
        record { answer = λ goes. is ∙ ap (reply_of place_reported) (answer (made goes)) ∙ rw (here, on) refl; state = λ goes. after (made goes) ∙ rw (here, on) refl }

    pub collect_step : is_collecting c.task ≡ true → (result ≡ Err NoMemory → may_refuse_step client_steps tree_steps w id ≡ true) → (reply : Result (Option (List (ℕ × ℕ))) Refusal) → reply ≡ reply_of view_reported result → CollectStep new reply
    collect_step on lacks reply is =
        let made : result ≢ Err NoMemory = λ e. let never : true ≡ false = sym (lacks e) ∙ collect_fits (participant_of id w.participants) c here on in cc in
        record { answer = is ∙ ap (reply_of view_reported) (answer made) ∙ rw (here, on) refl; state = after made ∙ rw (here, on) refl }

-- what a participant is answered depends on what it sees
module _ (w other : TreeWorldState) (id : ℕ) (alike : Indistinguishable client_steps tree_steps id w other) where
  same_program : program_of id w.participants ≡ program_of id other.participants
  same_program = ap (option_map (λ p. p.program)) alike.participant

  place_by : (o : Option Client) → place_answer_by tree_steps w id o ≡ place_answer_by tree_steps other id o
  place_by None = refl
  place_by (Some c) = ap (λ (x : Result (Option ℕ) Refusal). cond (is_placing c.task) x (Err Finished)) (ap (reply_of place_reported) (answers_alike client_steps tree_steps id w other alike))

  pub place_alike : place_answer tree_steps w id ≡ place_answer tree_steps other id
  place_alike = place_by (program_of id w.participants) ∙ ap (place_answer_by tree_steps other id) same_program

  view_by : (o : Option Client) → view_answer_by tree_steps w id o ≡ view_answer_by tree_steps other id o
  view_by None = refl
  view_by (Some c) = ap (λ (x : Result (Option (List (ℕ × ℕ))) Refusal). cond (is_collecting c.task) x (Err Finished)) (ap (reply_of view_reported) (answers_alike client_steps tree_steps id w other alike))

  pub view_alike : view_answer tree_steps w id ≡ view_answer tree_steps other id
  view_alike = view_by (program_of id w.participants) ∙ ap (view_answer_by tree_steps other id) same_program

-- a reply is refused where the step of the world is
module _ {O X : Type 0} (shown : Note O → X) where
  pub refused_too : (P : Type 0) (result : Result (Note O) Refusal) → OnErr result P → OnErr (reply_of shown result) P
  refused_too P (Ok note) h = tt
  refused_too P (Err why) h = h

  pub lacked_too : (result : Result (Note O) Refusal) → reply_of shown result ≡ Err NoMemory → result ≡ Err NoMemory
  lacked_too (Ok note) h = absurd (cc)
  lacked_too (Err why) h = cc

  pub kept_too : (P : Type 0) (result : Result (Note O) Refusal) → OnErr result P → reply_of shown result ≡ Err NoMemory → P
  kept_too P (Ok note) h e = absurd (cc)
  kept_too P (Err why) h e = h

is_set : (c : Client) (o : Option (Participant Client)) → option_map (λ p. p.program) o ≡ Some c → set_answer_by o ≡ Ok tt
is_set c None e = absurd (none-some c e)
is_set c (Some p) e = refl

module _ (w : TreeWorldState) (id : ℕ) where
  -- a call that stores a value
  pub record StoreCall (value : ℕ) (new : TreeWorldState) (reply : Result (Unit {0}) Refusal) : Type 0 where
    pub answer : reply ≡ done_unless (asking_refusal w id)
    pub state : new ≡ after_store tree_steps w id value
    pub refused : OnErr reply (new ≡ w)

  -- a call that begins a collect
  pub record CollectCall (new : TreeWorldState) (reply : Result (Unit {0}) Refusal) : Type 0 where
    pub answer : reply ≡ done_unless (asking_refusal w id)
    pub state : new ≡ after_collect_begin w id

  -- of nobody, of one who has something to do, and of one who has nothing
  no_store_of_nobody : (value : ℕ) → program_of id w.participants ≡ None → StoreCall value w (Err NotBegun)
  no_store_of_nobody value e = record { answer = rw e refl; state = rw e refl; refused = refl }

  no_store_of_busy : (value : ℕ) (c : Client) → program_of id w.participants ≡ Some c → is_idle c.task ≡ false → StoreCall value w (Err AlreadyBegun)
  no_store_of_busy value c e busy = record { answer = rw (e, busy) refl; state = rw (e, busy) refl; refused = refl }

  no_begin_of_nobody : program_of id w.participants ≡ None → CollectCall w (Err NotBegun)
  no_begin_of_nobody e = record { answer = rw e refl; state = rw e refl }

  no_begin_of_busy : (c : Client) → program_of id w.participants ≡ Some c → is_idle c.task ≡ false → CollectCall w (Err AlreadyBegun)
  no_begin_of_busy c e busy = record { answer = rw (e, busy) refl; state = rw (e, busy) refl }

  -- of one who is refused for this reason
  pub no_store : (value : ℕ) (why : Refusal) → asking_refusal w id ≡ Some why → StoreCall value w (Err why)
  no_store value why e = refused_by is_idle AlreadyBegun why (λ r. StoreCall value w (Err r)) (program_of id w.participants) e (no_store_of_nobody value) (no_store_of_busy value)

  pub no_begin : (why : Refusal) → asking_refusal w id ≡ Some why → CollectCall w (Err why)
  no_begin why e = refused_by is_idle AlreadyBegun why (λ r. CollectCall w (Err r)) (program_of id w.participants) e no_begin_of_nobody no_begin_of_busy

  pub begin_call : (c : Client) → program_of id w.participants ≡ Some c → is_idle c.task ≡ true → (new : TreeWorldState) (reply : Result (Unit {0}) Refusal) → reply ≡ set_answer w id → new ≡ after_set w id (collecting c) → CollectCall new reply
  begin_call c e idle new reply is becomes = record { answer = is ∙ is_set c (participant_of id w.participants) e ∙ rw (e, idle) refl; state = becomes ∙ rw (e, idle) refl }

  pub store_call : (value : ℕ) (c : Client) → program_of id w.participants ≡ Some c → is_idle c.task ≡ true → (v new : TreeWorldState) → v ≡ after_set w id (storing c value) →
      (result : Result (Note TreeReply) Refusal) → (result ≢ Err NoMemory → result ≡ step_answer client_steps tree_steps v id) → (result ≢ Err NoMemory → new ≡ after_step client_steps tree_steps v id) →
      (result ≡ Err NoMemory → may_refuse_step client_steps tree_steps v id ≡ true) → (reply : Result (Unit {0}) Refusal) → reply ≡ reply_of (λ (note : Note TreeReply). tt {0}) result → StoreCall value new reply
  store_call value c e idle v new asked result answer after lacks reply is =
      let never : (why : Refusal) → result ≡ Err why → ⊥ = λ why h. store_goes_well w v id value c (sym e) asked result why h answer lacks in
      let reported : reply_of (λ (note : Note TreeReply). tt {0}) result ≡ Ok tt = (elim result as (λ r. result ≡ r → reply_of (λ (note : Note TreeReply). tt {0}) r ≡ Ok tt) [ Ok note ↦ λ h. refl | Err why ↦ λ h. absurd (never why h) ]) refl in
      let fine : reply ≡ Ok tt = is ∙ reported in
      record { answer = fine ∙ rw (e, idle) refl; state = after (never NoMemory) ∙ rw (asked, e, idle) refl; refused = rw fine tt }
