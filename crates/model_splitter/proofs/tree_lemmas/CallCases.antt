-- what a call of a tree's world does, by cases: it is refused, or it changes its participant and at most one register
use Rattle.std.proofs.Common.{◌≡◌, ℕ, Bool, true, false, cond, ◌⊎◌, inl, inr, List, [], ◌∷◌, Option, Some, None, Result, Ok, Err, refl, ap, ◌∙◌, is_some}
use Rattle.model_splitter.proofs.tree_lemmas.WorldCommon.{cases_Bool, eqb_tells, Decides-eqb, Read, Answer, Note, Quiet, Participant, Refusal, AlreadyBegun, NotBegun, Finished, NoMemory, set_at, MemorySteps, answer_from, done_unless, after_set, outcome_in, set_at-same, TreeRegister, TreeValue, Collect, Client, Task, Placing, Nothing, Collecting, Walker, next_access, walker_after, walker_note, place_of, collect_reads, collect_view, TreeState, asking_refusal, after_store, after_collect_begin, view_answer, after_collecting, may_lack_memory, next, IsReply, Stepped}
use Rattle.model_steps.specs.Note.{ends}
use Rattle.model_steps.specs.Participant.{participant_of, with_participant, beginner}
use Rattle.model_steps.proofs.cited.ParticipantLemmas.{participant_of-put, identity_of}
use Rattle.model_splitter.specs.tree.Client.{is_placing, is_idle, is_collecting, is_placed, placed_note, place_reported, view_reported, collected_note, collecting_after, storing, collecting, with_task, write_at, record_of}

-- no participant's program ends
abbrev pub GoesOn : {S : Type 0} → TreeState S → Type 0
GoesOn w = (id : ℕ) (v : Participant Client) → participant_of id w.participants ≡ Some v → v.ended ≡ false

-- the world in which a participant has become another, over this memory
abbrev pub turned : {S : Type 0} → TreeState S → S → ℕ → Client → TreeState S
turned w s id c = record { memory = s; most = w.most; participants = with_participant (beginner id c) w.participants }

-- it stands there, and every other as before
pub turned_stands : {S : Type 0} (w : TreeState S) (s : S) (id : ℕ) (c : Client) (who : Participant Client) → participant_of id w.participants ≡ Some who →
    (q : ℕ) → participant_of q (turned w s id c).participants ≡ set_at (λ u. participant_of u w.participants) id (Some (beginner id c)) q
turned_stands w s id c who here = participant_of-put w.participants (beginner id c) (ap is_some here)

-- who is put twice stands as at the second time
put_twice : (id : ℕ) (one two : Client) (ps : List (Participant Client)) → with_participant (beginner id two) (with_participant (beginner id one) ps) ≡ with_participant (beginner id two) ps
put_twice id one two [] = refl
put_twice id one two (p ∷ ps) = elim (eqb_tells p.identity id) [
  | inl e ↦ rw (e.0, (Decides-eqb id id).1 refl) refl
  | inr e ↦ rw (e.0, e.0) (ap (λ xs. p ∷ xs) (put_twice id one two ps))
]

-- what a task is, by its tests
placing_is : (k : Task) → is_placing k ≡ true → k ≡ Placing
placing_is Placing h = refl
placing_is k h = absurd (cc)

idle_is : (k : Task) → is_idle k ≡ true → k ≡ Nothing
idle_is Nothing h = refl
idle_is k h = absurd (cc)

collecting_is : (k : Task) → is_collecting k ≡ true → (c : Collect) × (k ≡ Collecting c)
collecting_is (Collecting c) h = (c, refl)
collecting_is k h = absurd (cc)

-- what a client says of what its walk says, and of what its collect shows
place_in_note : (n : Note ℕ) → place_reported (placed_note n) ≡ outcome_in n
place_in_note Quiet = refl
place_in_note n = refl

placed_goes : (n : Note ℕ) → ends (placed_note n) ≡ false
placed_goes Quiet = refl
placed_goes n = refl

shown_is : (shown : Option (List (ℕ × ℕ))) → view_reported (collected_note shown) ≡ shown
shown_is None = refl
shown_is (Some view) = refl

collected_goes : (shown : Option (List (ℕ × ℕ))) → ends (collected_note shown) ≡ false
collected_goes None = refl
collected_goes (Some view) = refl

-- why a call is refused to one who has not begun, or is not at what it takes
abbrev pub Hinders : (Task → Bool) → Refusal → Option (Participant Client) → Refusal → Type 0
Hinders fits wrong who why = ((who ≡ None) × (why ≡ NotBegun)) ⊎ ((v : Participant Client) × (who ≡ Some v) × (fits v.program.task ≡ false) × (why ≡ wrong))

-- a call is refused for this reason, and changes nothing
pub record IsRefused {S X : Type 0} (reply : Result X Refusal) (w new : TreeState S) (Because : Refusal → Type 0) : Type 0 where
  pub why : Refusal
  pub is : reply ≡ Err why
  pub same : new ≡ w
  pub cause : Because why

module _ {S : Type 0} (memory : MemorySteps S TreeRegister TreeValue) (w : TreeState S) (id : ℕ) where
  -- a walk gets this for its next access, and its client is this then
  abbrev pub got_on : Walker → Answer TreeValue
  got_on u = answer_from (memory.register w.memory) (next_access u)

  abbrev pub walked_on : Walker → Client
  walked_on u = record { walker = walker_after u (got_on u); task = cond (is_placed (walker_note u (got_on u))) Nothing Placing }

  -- the participant of an identity makes an access on its way
  pub record IsStep (reply : Result (Option ℕ) Refusal) (new : TreeState S) : Type 0 where
    pub who : Participant Client
    pub here : participant_of id w.participants ≡ Some who
    pub task : who.program.task ≡ Placing
    pub is : reply ≡ Ok (outcome_in (walker_note who.program.walker (got_on who.program.walker)))
    pub after : new ≡ turned w (memory.after w.memory (next_access who.program.walker)) id (walked_on who.program.walker)

  -- it writes its segment
  pub record IsStore (value : ℕ) (reply : Result (Unit {0}) Refusal) (new : TreeState S) : Type 0 where
    pub who : Participant Client
    pub here : participant_of id w.participants ≡ Some who
    pub task : who.program.task ≡ Nothing
    pub is : reply ≡ Ok tt
    pub after : new ≡ turned w (memory.after w.memory (write_at (place_of who.program.walker) (record_of who.program value))) id (with_task who.program Nothing)

  -- it begins a collect
  pub record IsCollectBegin (reply : Result (Unit {0}) Refusal) (new : TreeState S) : Type 0 where
    pub who : Participant Client
    pub here : participant_of id w.participants ≡ Some who
    pub task : who.program.task ≡ Nothing
    pub is : reply ≡ Ok tt
    pub after : new ≡ turned w w.memory id (collecting who.program)

  -- what a collect reads next
  abbrev pub read_by : Collect → TreeValue
  read_by collect = (memory.register w.memory (collect_reads collect)).0

  -- it reads on in its collect
  pub record IsCollectStep (reply : Result (Option (List (ℕ × ℕ))) Refusal) (new : TreeState S) : Type 0 where
    pub who : Participant Client
    pub here : participant_of id w.participants ≡ Some who
    pub collect : Collect
    pub task : who.program.task ≡ Collecting collect
    pub is : reply ≡ Ok (collect_view collect (read_by collect))
    pub after : new ≡ turned w (memory.after w.memory (Read (collect_reads collect))) id (collecting_after who.program collect (read_by collect))

  -- why a call is refused
  abbrev pub HindersHere : (Task → Bool) → Refusal → Refusal → Type 0
  HindersHere fits wrong = Hinders fits wrong (participant_of id w.participants)

  abbrev pub HindersStep : Refusal → Type 0
  HindersStep why = HindersHere is_placing Finished why ⊎ ((why ≡ NoMemory) × (may_lack_memory memory w id ≡ true))

  pub step_cases : GoesOn w → (reply : Result (Option ℕ) Refusal) → IsReply memory w (Stepped id reply) →
      IsRefused reply w (next memory w (Stepped id reply)) HindersStep ⊎ IsStep reply (next memory w (Stepped id reply))
  step_cases goes reply (inr lacks) = inl (record { why = NoMemory; is = lacks.0; same = rw lacks.0 refl; cause = inr (refl, lacks.1) })
  step_cases goes reply (inl is) = elim (participant_of id w.participants) as (λ o. participant_of id w.participants ≡ o → IsRefused reply w (next memory w (Stepped id reply)) HindersStep ⊎ IsStep reply (next memory w (Stepped id reply))) [
    | None ↦ λ e. inl (record { why = NotBegun; is = is ∙ rw e refl; same = rw (is, e) refl; cause = inl (inl (e, refl)) })
    | Some v ↦ λ e. elim (cases_Bool (is_placing v.program.task)) [
      | inr placed ↦ inl (record { why = Finished; is = is ∙ rw (e, placed) refl; same = rw (is, e, placed) refl; cause = inl (inr (v, e, placed, refl)) })
      | inl placing ↦
          let k : v.program.task ≡ Placing = placing_is v.program.task placing in
          let note : Note ℕ = walker_note v.program.walker (got_on v.program.walker) in
          let answer : reply ≡ Ok (outcome_in note) = is ∙ rw (e, placing, e, goes id v e, k) (ap Ok (place_in_note note)) in
          inr (record { who = v; here = e; task = k; is = answer; after = rw (answer, e, placing, e, goes id v e, k, identity_of id w.participants v e, placed_goes note) refl })
    ]
  ] refl

  pub collect_step_cases : GoesOn w → (reply : Result (Option (List (ℕ × ℕ))) Refusal) → reply ≡ view_answer memory w id →
      IsRefused reply w (after_collecting memory w id) (HindersHere is_collecting Finished) ⊎ IsCollectStep reply (after_collecting memory w id)
  collect_step_cases goes reply is = elim (participant_of id w.participants) as (λ o. participant_of id w.participants ≡ o → IsRefused reply w (after_collecting memory w id) (HindersHere is_collecting Finished) ⊎ IsCollectStep reply (after_collecting memory w id)) [
    | None ↦ λ e. inl (record { why = NotBegun; is = is ∙ rw e refl; same = rw e refl; cause = inl (e, refl) })
    | Some v ↦ λ e. elim (cases_Bool (is_collecting v.program.task)) [
      | inr idle ↦ inl (record { why = Finished; is = is ∙ rw (e, idle) refl; same = rw (e, idle) refl; cause = inr (v, e, idle, refl) })
      | inl collects ↦
          let goes_on : (collect : Collect) → v.program.task ≡ Collecting collect → IsCollectStep reply (after_collecting memory w id) = λ collect k. (
          let shown : Option (List (ℕ × ℕ)) = collect_view collect (read_by collect) in
          record {
            who = v;
            here = e;
            collect = collect;
            task = k;
            is = is ∙ rw (e, collects, e, goes id v e, k) (ap Ok (shown_is shown));
            after = rw (e, collects, e, goes id v e, k, identity_of id w.participants v e, collected_goes shown) refl;
          }) in
          let found = collecting_is v.program.task collects in
          inr (goes_on found.0 found.1)
    ]
  ] refl

  pub store_cases : (value : ℕ) (reply : Result (Unit {0}) Refusal) → reply ≡ done_unless (asking_refusal w id) →
      IsRefused reply w (after_store memory w id value) (HindersHere is_idle AlreadyBegun) ⊎ IsStore value reply (after_store memory w id value)
  store_cases value reply is = elim (participant_of id w.participants) as (λ o. participant_of id w.participants ≡ o → IsRefused reply w (after_store memory w id value) (HindersHere is_idle AlreadyBegun) ⊎ IsStore value reply (after_store memory w id value)) [
    | None ↦ λ e. inl (record { why = NotBegun; is = is ∙ rw e refl; same = rw e refl; cause = inl (e, refl) })
    | Some v ↦ λ e. elim (cases_Bool (is_idle v.program.task)) [
      | inr busy ↦ inl (record { why = AlreadyBegun; is = is ∙ rw (e, busy) refl; same = rw (e, busy) refl; cause = inr (v, e, busy, refl) })
      | inl idle ↦
          let asked : Client = storing v.program value in
          let stands : participant_of id (after_set w id asked).participants ≡ Some (beginner id asked) = turned_stands w w.memory id asked v e id ∙ set_at-same (λ u. participant_of u w.participants) id (Some (beginner id asked)) in
          inr (record {
            who = v;
            here = e;
            task = idle_is v.program.task idle;
            is = is ∙ rw (e, idle) refl;
            after = rw (e, idle, stands) (ap (λ ps. record { memory = memory.after w.memory (write_at (place_of v.program.walker) (record_of v.program value)); most = w.most; participants = ps }) (put_twice id asked (with_task v.program Nothing) w.participants));
          })
    ]
  ] refl

  pub collect_begin_cases : (reply : Result (Unit {0}) Refusal) → reply ≡ done_unless (asking_refusal w id) →
      IsRefused reply w (after_collect_begin w id) (HindersHere is_idle AlreadyBegun) ⊎ IsCollectBegin reply (after_collect_begin w id)
  collect_begin_cases reply is = elim (participant_of id w.participants) as (λ o. participant_of id w.participants ≡ o → IsRefused reply w (after_collect_begin w id) (HindersHere is_idle AlreadyBegun) ⊎ IsCollectBegin reply (after_collect_begin w id)) [
    | None ↦ λ e. inl (record { why = NotBegun; is = is ∙ rw e refl; same = rw e refl; cause = inl (e, refl) })
    | Some v ↦ λ e. elim (cases_Bool (is_idle v.program.task)) [
      | inr busy ↦ inl (record { why = AlreadyBegun; is = is ∙ rw (e, busy) refl; same = rw (e, busy) refl; cause = inr (v, e, busy, refl) })
      | inl idle ↦ inr (record { who = v; here = e; task = idle_is v.program.task idle; is = is ∙ rw (e, idle) refl; after = rw (e, idle) refl })
    ]
  ] refl
