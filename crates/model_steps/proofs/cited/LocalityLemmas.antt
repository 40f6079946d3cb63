-- a step is local
use Rattle.std.proofs.Common.{◌≡◌, ℕ, Bool, true, false, cond, Option, Some, None, Ok, Err, refl, sym, ap, subst, ◌∙◌, is_some, if◌then◌else◌}
use Rattle.model_steps.proofs.Common.{Access, Finished, Participant, participant_of, with_participant, resumed, set_at, WorldState, after_step, after_step_by, step_answer, step_answer_by, got_by}
use Rattle.model_steps.specs.declared.access.Access.TheVariants.{Read, TestAndSet}
use Rattle.model_steps.specs.Steps.{ProgramSteps, MemorySteps, Spares, AgreeAt, answer_from}
use Rattle.model_steps.specs.Locality.{ChangesOnly, Indistinguishable, StandAlike}
use Rattle.model_steps.proofs.cited.ParticipantLemmas.{participant_of-put, identity_of}
use Rattle.model_steps.proofs.cited.SetAtLemmas.{set_at-same, set_at-other}

-- memories that agree at the register of an access answer it alike
pub answer_alike : {R V : Type 0} (one other : R → V × Bool) (a : Access R V) → AgreeAt one other a → answer_from one a ≡ answer_from other a
answer_alike one other (Read r) h = rw h refl
answer_alike one other (TestAndSet r) h = rw h refl
answer_alike one other a h = refl

module _ {P S R V O : Type 0} (program : ProgramSteps P R V O) (memory : MemorySteps S R V) where
  -- what changes nothing is local
  pub unchanged_local : (p : ℕ) (w : WorldState S P) → ChangesOnly program memory p w w
  unchanged_local p w = record { most = refl; others = λ q n. refl; registers = λ v is r h. refl; absent = λ h. refl }

  -- an accepted step is local
  pub going_local : ((m : S) (a : Access R V) (r : R) → Spares a r → memory.register (memory.after m a) r ≡ memory.register m r) →
      (w : WorldState S P) (p : ℕ) (v : Participant P) → participant_of p w.participants ≡ Some v →
      ChangesOnly program memory p w (record { memory = memory.after w.memory (program.next v.program); most = w.most; participants = with_participant (resumed program v (got_by program memory w.memory v)) w.participants })
  going_local spared w p v here =
      let own : v.identity ≡ p = identity_of p w.participants v here in
      record {
        most = refl;
        others = λ q n.
            let new : Participant P = resumed program v (got_by program memory w.memory v) in
            let there : is_some (participant_of v.identity w.participants) ≡ true = rw (own, here) refl in
            participant_of-put w.participants new there q ∙ set_at-other (λ u. participant_of u w.participants) v.identity (Some new) q (λ e. n (e ∙ own));
        registers = λ u is r h.
            let same : v ≡ u = (let e : Some v ≡ Some u = sym here ∙ is in cc) in
            spared w.memory (program.next v.program) r (subst (λ (x : Participant P). Spares (program.next x.program) r) (sym same) h);
        absent = λ h. absurd (let k : Some v ≡ None = sym here ∙ h in cc);
      }

  -- any step is local
  pub step_local : ((m : S) (a : Access R V) (r : R) → Spares a r → memory.register (memory.after m a) r ≡ memory.register m r) →
      (w : WorldState S P) (p : ℕ) → ChangesOnly program memory p w (after_step program memory w p)
  step_local spared w p = elim (participant_of p w.participants) as (λ o. participant_of p w.participants ≡ o → ChangesOnly program memory p w (after_step_by program memory w o)) [
    | None ↦ λ _. unchanged_local p w
    | Some v ↦ λ here. elim v.ended as (λ b. ChangesOnly program memory p w (cond b w (record { memory = memory.after w.memory (program.next v.program); most = w.most; participants = with_participant (resumed program v (got_by program memory w.memory v)) w.participants }))) [
      | true ↦ unchanged_local p w
      | false ↦ going_local spared w p v here
    ]
  ] refl

  -- worlds that look alike to a participant answer its step alike
  pub answers_alike : (p : ℕ) (one other : WorldState S P) → Indistinguishable program memory p one other → step_answer program memory one p ≡ step_answer program memory other p
  answers_alike p one other alike = elim (participant_of p one.participants) as (λ o. participant_of p one.participants ≡ o → participant_of p other.participants ≡ o → step_answer_by program memory one.memory o ≡ step_answer_by program memory other.memory (participant_of p other.participants)) [
    | None ↦ λ here there. rw there refl
    | Some v ↦ λ here there.
        let got : got_by program memory one.memory v ≡ got_by program memory other.memory v = answer_alike (memory.register one.memory) (memory.register other.memory) (program.next v.program) (alike.register v here) in
        rw there (ap (λ x. cond v.ended (Err Finished) (Ok (program.note v.program x))) got)
  ] refl (sym alike.participant)

  -- a participant that has taken a step
  moved_by : S → Option (Participant P) → Option (Participant P)
  moved_by s None = None
  moved_by s (Some v) = Some (if v.ended then v else resumed program v (got_by program memory s v))

  stands_after : (w : WorldState S P) (p : ℕ) → participant_of p (after_step program memory w p).participants ≡ moved_by w.memory (participant_of p w.participants)
  unfolding moved_by
  stands_after w p = elim (participant_of p w.participants) as (λ o. participant_of p w.participants ≡ o → participant_of p (after_step_by program memory w o).participants ≡ moved_by w.memory o) [
    | None ↦ λ here. here
    | Some v ↦ λ here. elim v.ended as (λ b. participant_of p (cond b w (record { memory = memory.after w.memory (program.next v.program); most = w.most; participants = with_participant (resumed program v (got_by program memory w.memory v)) w.participants })).participants ≡ Some (cond b v (resumed program v (got_by program memory w.memory v)))) [
      | true ↦ here
      | false ↦
          let new : Participant P = resumed program v (got_by program memory w.memory v) in
          let own : v.identity ≡ p = identity_of p w.participants v here in
          let there : is_some (participant_of v.identity w.participants) ≡ true = rw (own, here) refl in
          participant_of-put w.participants new there p ∙ ap (λ i. set_at (λ u. participant_of u w.participants) i (Some new) p) own ∙ set_at-same (λ u. participant_of u w.participants) p (Some new)
    ]
  ] refl

  -- worlds that look alike to a participant leave it alike
  pub stand_alike : (p : ℕ) (one other : WorldState S P) → Indistinguishable program memory p one other → StandAlike p (after_step program memory one p) (after_step program memory other p)
  unfolding moved_by
  stand_alike p one other alike =
      stands_after one p
      ∙ elim (participant_of p one.participants) as (λ o. participant_of p one.participants ≡ o → moved_by one.memory o ≡ moved_by other.memory o) [
        | None ↦ λ here. refl
        | Some v ↦ λ here.
            let got : got_by program memory one.memory v ≡ got_by program memory other.memory v = answer_alike (memory.register one.memory) (memory.register other.memory) (program.next v.program) (alike.register v here) in
            ap (λ x. Some (cond v.ended v (resumed program v x))) got
      ] refl
      ∙ ap (moved_by other.memory) alike.participant
      ∙ sym (stands_after other p)
