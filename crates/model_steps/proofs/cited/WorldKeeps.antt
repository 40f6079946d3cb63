-- what holds after every run of a world: four cases to prove
use Rattle.std.proofs.Common.{◌≡◌, ◌≢◌, ℕ, ◌+◌, ◌<◌, true, false, cond, List, [], ◌∷◌, ◌++◌, length, Option, Some, None, Ok, Err, inl, inr, refl, ap, ◌∙◌, arith}
use Rattle.model_steps.proofs.Common.{eqb_tells, leb_tells, Note, Refusal, ZeroIdentity, AlreadyBegun, Full, NotBegun, Finished, NoMemory, Participant, ProgramSteps, MemorySteps, WorldState, participant_of, with_participant, beginner, resumed, begin_refusal, begun_unless, done_unless, after_step, after_step_by, step_answer, step_answer_by, got_by, Call, next, IsReply, steps_of, steps_by, outcome_of, outcome_by, first_of, begun_in, begun_by, reply_of, lacked_memory, Began, Stepped, Run}
use Rattle.model_steps.proofs.cited.RunLemmas.{run_keeps}
use Rattle.model_steps.proofs.cited.StepLemmas.{most_stepped}

-- lists of calls, one more at the end
pub steps_of-push : {X : Type 0} (p : ℕ) (r : List (Call X)) (h : Call X) → steps_of p (r ++ h ∷ []) ≡ steps_of p r + steps_by p h
steps_of-push p [] h = omega arith
steps_of-push p (k ∷ r) h = omega (arith, steps_of-push p r h)

pub begun_in-push : {X : Type 0} (r : List (Call X)) (h : Call X) → begun_in (r ++ h ∷ []) ≡ begun_in r + begun_by h
begun_in-push [] h = omega arith
begun_in-push (k ∷ r) h = omega (arith, begun_in-push r h)

first_of-assoc : {O : Type 0} (a b c : Option O) → first_of a (first_of b c) ≡ first_of (first_of a b) c
first_of-assoc None b c = refl
first_of-assoc (Some a) b c = refl

pub first_of-none : {O : Type 0} (a : Option O) → first_of a None ≡ a
first_of-none None = refl
first_of-none (Some a) = refl

pub outcome_of-push : {O : Type 0} (p : ℕ) (r : List (Call (Option O))) (h : Call (Option O)) → outcome_of p (r ++ h ∷ []) ≡ first_of (outcome_of p r) (outcome_by p h)
outcome_of-push p [] h = first_of-none (outcome_by p h)
outcome_of-push p (k ∷ r) h = ap (first_of (outcome_by p k)) (outcome_of-push p r h) ∙ first_of-assoc (outcome_by p k) (outcome_of p r) (outcome_by p h)

-- who is let in is not zero and has not begun, and there is room
pub record IsLetIn {S P : Type 0} (w : WorldState S P) (id : ℕ) : Type 0 where
  pub not_zero : id ≢ 0
  pub absent : participant_of id w.participants ≡ None
  pub room : length w.participants < w.most

pub let_in : {S P : Type 0} (w : WorldState S P) (id : ℕ) → begin_refusal w id ≡ None → IsLetIn w id
let_in w id h = elim (eqb_tells id 0) [
  | inl z ↦ absurd (let k : Some ZeroIdentity ≡ None = rw z.0 at h in cc)
  | inr z ↦
      elim (participant_of id w.participants) as (λ o. participant_of id w.participants ≡ o → IsLetIn w id) [
        | Some v ↦ λ e. absurd (let k : Some AlreadyBegun ≡ None = rw (z.0, e) at h in cc)
        | None ↦ λ e. elim (leb_tells w.most (length w.participants)) [
          | inl l ↦ absurd (let k : Some Full ≡ None = rw (z.0, e, l.0) at h in cc)
          | inr l ↦ record { not_zero = z.1; absent = e; room = l.1 }
        ]
      ] refl
]

module _ {P S R V O X : Type 0} (program : ProgramSteps P R V O) (memory : MemorySteps S R V) (shown : Note O → X) (start : ℕ → P) where
  -- a participant after its step
  abbrev pub moved : S → Participant P → Participant P
  moved s v = resumed program v (got_by program memory s v)

  -- the world after a step that is not refused
  abbrev pub stepped : WorldState S P → Participant P → WorldState S P
  stepped w v = record { memory = memory.after w.memory (program.next v.program); most = w.most; participants = with_participant (moved w.memory v) w.participants }

  -- a fact about worlds and the calls so far that each call keeps
  pub record IsKept (Holds : WorldState S P → List (Call X) → Type 0) : Type 0 where
    pub refused_begin : (w : WorldState S P) (r : List (Call X)) (id : ℕ) (why : Refusal) → Holds w r → Holds w (r ++ Began id (Err why) ∷ [])
    pub refused_step : (w : WorldState S P) (r : List (Call X)) (id : ℕ) (why : Refusal) → Holds w r → Holds w (r ++ Stepped id (Err why) ∷ [])
    pub begun : (w : WorldState S P) (r : List (Call X)) (id : ℕ) → IsLetIn w id → Holds w r → Holds (record { memory = w.memory; most = w.most; participants = w.participants ++ beginner id (start id) ∷ [] }) (r ++ Began id (Ok tt) ∷ [])
    pub gone_on : (w : WorldState S P) (r : List (Call X)) (id : ℕ) (v : Participant P) → participant_of id w.participants ≡ Some v → v.ended ≡ false → Holds w r →
        Holds (stepped w v) (r ++ Stepped id (Ok (shown (program.note v.program (got_by program memory w.memory v)))) ∷ [])

  module _ (Holds : WorldState S P → List (Call X) → Type 0) (kept : IsKept Holds) where
    -- a step whose growth was not refused
    step_keeps : (w : WorldState S P) (r : List (Call X)) (id : ℕ) → Holds w r →
        Holds (cond (lacked_memory (reply_of shown (step_answer program memory w id))) w (after_step program memory w id)) (r ++ Stepped id (reply_of shown (step_answer program memory w id)) ∷ [])
    step_keeps w r id t =
        elim (participant_of id w.participants) as (λ o. participant_of id w.participants ≡ o → Holds (cond (lacked_memory (reply_of shown (step_answer_by program memory w.memory o))) w (after_step_by program memory w o)) (r ++ Stepped id (reply_of shown (step_answer_by program memory w.memory o)) ∷ [])) [
          | None ↦ λ _. kept.refused_step w r id NotBegun t
          | Some v ↦ λ e.
              elim v.ended as (λ b. v.ended ≡ b → Holds (cond (lacked_memory (reply_of shown (cond b (Err Finished) (Ok (program.note v.program (got_by program memory w.memory v)))))) w (cond b w (stepped w v))) (r ++ Stepped id (reply_of shown (cond b (Err Finished) (Ok (program.note v.program (got_by program memory w.memory v))))) ∷ [])) [
                | true ↦ λ _. kept.refused_step w r id Finished t
                | false ↦ λ goes. kept.gone_on w r id v e goes t
              ] refl
        ] refl

    next_keeps : (w : WorldState S P) (r : List (Call X)) (h : Call X) → Holds w r → IsReply program memory shown start w h → Holds (next program memory shown start w h) (r ++ h ∷ [])
    next_keeps w r (Began id reply) t is = rw is (
        elim (begin_refusal w id) as (λ o. begin_refusal w id ≡ o → Holds (begun_unless o w id (start id)) (r ++ Began id (done_unless o) ∷ [])) [
          | Some why ↦ λ _. kept.refused_begin w r id why t
          | None ↦ λ e. kept.begun w r id (let_in w id e) t
        ] refl)
    next_keeps w r (Stepped id reply) t (inl is) = rw is (step_keeps w r id t)
    next_keeps w r (Stepped id reply) t (inr is) = rw is.0 (kept.refused_step w r id NoMemory t)

    -- it holds after every run
    pub world_keeps : (s : WorldState S P) → Holds s [] → (w : WorldState S P) (r : List (Call X)) → Run (next program memory shown start) (IsReply program memory shown start) s r w → Holds w r
    world_keeps s t w r a = run_keeps (next program memory shown start) (IsReply program memory shown start) Holds next_keeps s [] r w t a

  pub most_kept : (w : WorldState S P) (h : Call X) → (next program memory shown start w h).most ≡ w.most
  most_kept w (Began id reply) = elim (begin_refusal w id) as (λ o. (begun_unless o w id (start id)).most ≡ w.most) [ Some why ↦ refl | None ↦ refl ]
  most_kept w (Stepped id reply) = elim (lacked_memory reply) as (λ b. (cond b w (after_step program memory w id)).most ≡ w.most) [ true ↦ refl | false ↦ most_stepped program memory w id ]

  -- no call makes more room
  pub run_most : (s : WorldState S P) (r : List (Call X)) (end : WorldState S P) → Run (next program memory shown start) (IsReply program memory shown start) s r end → end.most ≡ s.most
  run_most s [] end e = ap (λ w. w.most) e
  run_most s (h ∷ r) end e = run_most (next program memory shown start s h) r end e.1 ∙ most_kept s h
