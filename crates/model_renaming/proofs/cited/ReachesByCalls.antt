-- a renaming world after one more call
use Rattle.std.proofs.Common.{◌≡◌, ◌≢◌, ℕ, true, false, None, Result, Err, inl, inr, refl, ◌∙◌}
use Rattle.model_renaming.proofs.Common.{Refusal, lacked_memory, Stepped, call_leads_on, StepReply, RenameState, KnownPlaces, WorldKind, renaming, rename_answer, after_rename_step, step_refusal, may_lack}
use Rattle.model_steps.specs.declared.refusal.Refusal.TheVariants.{NoMemory}
use Rattle.model_steps.specs.Machine.{Extends}
use Rattle.model_steps.proofs.cited.StepLemmas.{lacks_or_not}

lacks_false : {X : Type 0} (reply : Result X Refusal) → reply ≢ Err NoMemory → lacked_memory reply ≡ false
lacks_false (Err NoMemory) n = absurd (n refl)
lacks_false reply n = refl

module _ {S R V U K : Type 0} (W : KnownPlaces S R V U K) (kind : WorldKind) (w new : RenameState S U K) where
  pub step_leads_on : (id : ℕ) (reply : Result StepReply Refusal) →
      (reply ≢ Err NoMemory → new ≡ after_rename_step W w id) → (reply ≢ Err NoMemory → reply ≡ rename_answer W w id) →
      (reply ≡ Err NoMemory → (new ≡ w) × (step_refusal w id ≡ None) × (may_lack W w id ≡ true)) →
      Extends (renaming W kind) w new (Stepped id reply)
  step_leads_on id reply e is lack = elim (lacks_or_not reply) [
    | inr goes ↦ let no = lacks_false reply goes in call_leads_on (renaming W kind) w new (Stepped id reply) (e goes ∙ rw no refl) (inl (is goes))
    | inl h ↦
        let refused = lack h in
        let lacked : lacked_memory reply ≡ true = rw h refl in
        call_leads_on (renaming W kind) w new (Stepped id reply) (refused.0 ∙ rw lacked refl) (inr (h, (refused.1, refused.2)))
  ]
