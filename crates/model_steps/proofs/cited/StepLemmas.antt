-- a step by cases on who takes it
use Rattle.std.proofs.Common.{◌≡◌, ◌≢◌, ℕ, true, false, ◌⊎◌, inl, inr, refl, ap, Option, Some, None, Result, MatchResult, IsOkAnd, Ok, Err}
use Rattle.model_steps.proofs.Common.{Note, Refusal, lacked_memory, reply_of, Participant, ProgramSteps, MemorySteps, WorldState, participant_of, with_participant, resumed, step_answer, step_answer_by, after_step, after_step_by, may_refuse_step, got_by}
use Rattle.model_steps.specs.Calls.{outcome_in}
use Rattle.model_steps.specs.declared.refusal.Refusal.TheVariants.{NotBegun, Finished, NoMemory}

module _ {P S R V O : Type 0} (program : ProgramSteps P R V O) (memory : MemorySteps S R V) where
  pub absent_answer : (w : WorldState S P) (id : ℕ) → participant_of id w.participants ≡ None → step_answer program memory w id ≡ Err NotBegun
  absent_answer w id h = rw h

  pub absent_after : (w : WorldState S P) (id : ℕ) → participant_of id w.participants ≡ None → after_step program memory w id ≡ w
  absent_after w id h = rw h

  pub ended_answer : (w : WorldState S P) (id : ℕ) (p : Participant P) → participant_of id w.participants ≡ Some p → p.ended ≡ true → step_answer program memory w id ≡ Err Finished
  ended_answer w id p h e = rw (h, e)

  pub ended_after : (w : WorldState S P) (id : ℕ) (p : Participant P) → participant_of id w.participants ≡ Some p → p.ended ≡ true → after_step program memory w id ≡ w
  ended_after w id p h e = rw (h, e)

  pub going_answer : (w : WorldState S P) (id : ℕ) (p : Participant P) → participant_of id w.participants ≡ Some p → p.ended ≡ false → step_answer program memory w id ≡ Ok (program.note p.program (got_by program memory w.memory p))
  going_answer w id p h e = rw (h, e)

  pub going_after : (w : WorldState S P) (id : ℕ) (p : Participant P) → participant_of id w.participants ≡ Some p → p.ended ≡ false → after_step program memory w id ≡ record { memory = memory.after w.memory (program.next p.program); most = w.most; participants = with_participant (resumed program p (got_by program memory w.memory p)) w.participants }
  going_after w id p h e = rw (h, e)

  pub going_refused : (w : WorldState S P) (id : ℕ) (p : Participant P) → participant_of id w.participants ≡ Some p → p.ended ≡ false → may_refuse_step program memory w id ≡ memory.may_refuse w.memory (program.next p.program)
  going_refused w id p h e = rw (h, e)

  pub most_stepped : (w : WorldState S P) (id : ℕ) → (after_step program memory w id).most ≡ w.most
  most_stepped w id =
      elim (participant_of id w.participants) as (λ o. (after_step_by program memory w o).most ≡ w.most)
      [ None ↦ refl | Some v ↦ elim v.ended as (λ b. (after_step_by program memory w (Some (record { identity = v.identity; program = v.program; ended = b }))).most ≡ w.most) [ true ↦ refl | false ↦ refl ] ]

  pub lacks_none : {X : Type 0} (shown : Note O → X) (w : WorldState S P) (id : ℕ) → lacked_memory (reply_of shown (step_answer program memory w id)) ≡ false
  lacks_none shown w id =
      elim (participant_of id w.participants) as (λ o. lacked_memory (reply_of shown (step_answer_by program memory w.memory o)) ≡ false)
      [ None ↦ refl | Some v ↦ elim v.ended as (λ b. lacked_memory (reply_of shown (step_answer_by program memory w.memory (Some (record { identity = v.identity; program = v.program; ended = b })))) ≡ false) [ true ↦ refl | false ↦ refl ] ]

-- a reply is the refusal of a growth, or it is not
pub lacks_or_not : {X : Type 0} (reply : Result X Refusal) → (reply ≡ Err NoMemory) ⊎ (reply ≢ Err NoMemory)
lacks_or_not (Err NoMemory) = inl refl
lacks_or_not reply = inr (λ h. absurd (cc))

-- what is mapped to the outcome of its note shows the outcome
pub shows_what_is_mapped : {O : Type 0} (reported : Result (Note O) Refusal) (got : Result (Option O) Refusal) →
    MatchResult reported (λ note. IsOkAnd got (λ outcome. outcome ≡ outcome_in note)) (λ refusal. got ≡ Err refusal) → got ≡ reply_of outcome_in reported
shows_what_is_mapped (Ok note) (Ok outcome) is = ap Ok is
shows_what_is_mapped (Ok note) (Err refusal) is = absurd is
shows_what_is_mapped (Err refusal) got is = is
