-- each call of a renaming world keeps it tied to the object of its law
use Rattle.std.proofs.Common.{◌≢◌, cond, ◌≡◌, ℕ, ◌+◌, true, false, Some, None, Result, Ok, Err, inl, inr, refl, sym, ap, subst, ◌∙◌, is_some, option_map}
use Rattle.model_renaming.proofs.Common.{Participant, Refusal, participant_of, program_of, Call, lacked_memory, Stepped, SnapState, SnapCall, snap_next, IsSnapReply, ToPlace, ToScan, ToUpdate, StepReply, Round, RoundStage, Placing, Proposing, Looking, Settled, Over, stage_refusal, followed, RenameState, KnownPlaces, Pace, InTime, paced, next, IsReply, after_follow, rename_answer, after_rename_step, step_refusal, may_lack, RenameTerms, RenameObject, no_step, Allows, after, GoesBusy, goes_busy}
use Rattle.model_steps.specs.declared.refusal.Refusal.TheVariants.{NotBegun, Finished, Spent as IsSpent, NoMemory}
use Rattle.model_snapshot.specs.SnapCalls.SnapCall.{Stepped as SnapStepped}
use Rattle.model_snapshot.specs.Snapshot.{SnapObject, SnapBounds, observed, has_begun, has_nothing_pending, step_due, Allows as SnapAllows}
use Rattle.model_renaming.proofs.rounds.Tied.{IsAtStage, IsTied}
use Rattle.model_renaming.proofs.rounds.Stepping.{HasGone, placing_gone, proposing_gone, looking_gone}

-- an allocation failure is never due
not_due : (bounds : SnapBounds) (s : SnapObject) (p : ℕ) → step_due bounds s p ≢ Some NoMemory
not_due bounds s p e = elim (has_begun (s.task p)) as (λ a. cond a (cond (has_nothing_pending bounds s p) (Some Finished) None) (Some NotBegun) ≢ Some NoMemory) [
  | false ↦ λ f. absurd (cc)
  | true ↦ elim (has_nothing_pending bounds s p) as (λ b. cond b (Some Finished) None ≢ Some NoMemory) [ true ↦ λ f. absurd (cc) | false ↦ λ f. absurd (cc) ]
] e

module _ {S R V U K : Type 0} (W : KnownPlaces S R V U K) (terms : RenameTerms) (bounds : SnapBounds)
    (Tie : SnapState S U K → SnapObject → Type 0)
    (tie_goes : (w : SnapState S U K) (o : SnapObject) (h : SnapCall) → Tie w o → IsSnapReply W w h → Tie (snap_next W w h) (observed o h) × SnapAllows bounds o h) where
  -- the object may give this reply, it comes in time, and all go on together
  pub record Goes (w : RenameState S U K) (o : RenameObject) (t : Pace) (h : Call StepReply) : Type 0 where
    pub allowed : Allows terms o h
    pub timed : InTime bounds t h
    pub tied : IsTied terms Tie (next W w h) (after o h) (paced bounds t h)

  module _ (w : RenameState S U K) (o : RenameObject) (t : Pace) (i : IsTied terms Tie w o t) (p : ℕ) where
    abbrev Answered : Type 0
    Answered = Goes w o t (Stepped p (rename_answer W w p))

    conclude : (reply : Result StepReply Refusal) (new : RenameState S U K) → rename_answer W w p ≡ reply → lacked_memory reply ≡ false → after_rename_step W w p ≡ new →
        Allows terms o (Stepped p reply) → InTime bounds t (Stepped p reply) → IsTied terms Tie new (after o (Stepped p reply)) (paced bounds t (Stepped p reply)) → Answered
    conclude reply new answer lacks state allowed timed tied =
        let go : Goes w o t (Stepped p reply) = record { allowed = allowed; timed = timed; tied = rw lacks (subst (λ (x : RenameState S U K). IsTied terms Tie x (after o (Stepped p reply)) (paced bounds t (Stepped p reply))) (sym state) tied) } in
        subst (λ (x : Result StepReply Refusal). Goes w o t (Stepped p x)) (sym answer) go

    absent_step : participant_of p w.rounds ≡ None → no_step o p ≡ Some NotBegun
    absent_step h = let b : o.begun p ≡ false = i.begun p ∙ ap is_some h in rw b refl

    absent_goes : participant_of p w.rounds ≡ None → Answered
    absent_goes h = conclude (Err NotBegun) w (rw h refl) refl (rw h refl) (inl (absent_step h)) tt i

    module _ (v : Participant Round) (here : participant_of p w.rounds ≡ Some v) where
      begun_is : o.begun p ≡ true
      begun_is = i.begun p ∙ ap is_some here

      named_step : is_some (o.name p) ≡ true → no_step o p ≡ Some Finished
      named_step h = rw (begun_is, h) refl

      spent_step : o.name p ≡ None → o.spent p ≡ true → no_step o p ≡ Some IsSpent
      spent_step h k = rw (begun_is, h, k) refl

      open_step : o.name p ≡ None → o.spent p ≡ false → no_step o p ≡ None
      open_step h k = rw (begun_is, h, k) refl

      program_is : program_of p w.rounds ≡ Some v.program
      program_is = ap (option_map (λ u. u.program)) here

      refused_goes : (why : Refusal) → lacked_memory {X = StepReply} (Err why) ≡ false → stage_refusal v.program.stage ≡ Some why → no_step o p ≡ Some why → Answered
      refused_goes why lacks closed due = conclude (Err why) w (rw (program_is, closed) refl) lacks (rw (program_is, closed) refl) (inl due) tt i

      open_goes : (n : ℕ) → (k : GoesBusy W w.snap p n) → stage_refusal v.program.stage ≡ None → no_step o p ≡ None → HasGone W terms bounds Tie tie_goes w o t i p v here (followed v.program p k.reply w.limit) → Answered
      open_goes n k unclosed none gone =
          conclude (Ok (followed v.program p k.reply w.limit).reply) (after_follow W w p (followed v.program p k.reply w.limit))
          (rw (program_is, unclosed, k.answer) refl) refl (rw (program_is, unclosed, k.answer) refl) (none, gone.allowed) gone.timed gone.tied

      stage_goes : (stage : RoundStage) → v.program.stage ≡ stage → IsAtStage terms o t i.object w.snap p v.program stage → Answered
      stage_goes Placing e h =
          let k = goes_busy W w.snap p 0 h.stands in
          open_goes 0 k (ap stage_refusal e) (open_step h.going.unnamed h.going.left) (placing_gone W terms bounds Tie tie_goes w o t i p v here h e k)
      stage_goes (Proposing number) e h =
          let k = goes_busy W w.snap p (v.program.count + 1) h.stands in
          open_goes (v.program.count + 1) k (ap stage_refusal e) (open_step h.going.unnamed h.going.left) (proposing_gone W terms bounds Tie tie_goes w o t i p v here number h e k)
      stage_goes Looking e h =
          let k = goes_busy W w.snap p v.program.count h.stands in
          open_goes v.program.count k (ap stage_refusal e) (open_step h.going.unnamed h.going.left) (looking_gone W terms bounds Tie tie_goes w o t i p v here h e k)
      stage_goes Settled e h = refused_goes Finished refl (ap stage_refusal e) (named_step (ap is_some h.1))
      stage_goes Over e h = refused_goes IsSpent refl (ap stage_refusal e) (spent_step h.0 h.1)

      there_goes : Answered
      there_goes = stage_goes v.program.stage refl (i.stages p v here)

    answered : Answered
    answered = elim (participant_of p w.rounds) as (λ z. participant_of p w.rounds ≡ z → Answered) [
      | None ↦ λ h. absent_goes h
      | Some v ↦ λ h. there_goes v h
    ] refl

    -- a step for which a growth was refused: only one who has no place yet makes such a step
    module _ (v : Participant Round) (here : participant_of p w.rounds ≡ Some v) where
      stage_lacks : (stage : RoundStage) → IsAtStage terms o t i.object w.snap p v.program stage → stage_refusal stage ≡ None → i.object.task p ≡ ToPlace → (no_step o p ≡ None) × (o.place p ≡ None)
      stage_lacks Placing h none e = (open_step v here h.going.unnamed h.going.left, h.unplaced)
      stage_lacks (Proposing number) h none e = absurd (let no : ToUpdate number ≡ ToPlace = sym h.task ∙ e in cc)
      stage_lacks Looking h none e = absurd (let no : ToScan ≡ ToPlace = sym h.task ∙ e in cc)
      stage_lacks Settled h none e = absurd (cc)
      stage_lacks Over h none e = absurd (cc)

    lacks : step_refusal w p ≡ None → i.object.task p ≡ ToPlace → (no_step o p ≡ None) × (o.place p ≡ None)
    lacks none e = elim (participant_of p w.rounds) as (λ z. participant_of p w.rounds ≡ z → (no_step o p ≡ None) × (o.place p ≡ None)) [
      | None ↦ λ h. absurd (let k : Some NotBegun ≡ None = rw h at none in cc)
      | Some v ↦ λ h. stage_lacks v h v.program.stage (i.stages p v h) (rw h at none) e
    ] refl

    way_of : (s : SnapObject) → SnapAllows bounds s (SnapStepped p (Err NoMemory)) → s.task p ≡ ToPlace
    way_of s (inl due) = absurd (not_due bounds s p due)
    way_of s (inr lacks) = lacks.2

    pub step_goes : ((s : RenameState S U K) (q : ℕ) → may_lack W s q ≡ true → terms.grows ≡ true) → (reply : Result StepReply Refusal) → IsReply W w (Stepped p reply) → Goes w o t (Stepped p reply)
    step_goes grows reply (inl e) = subst (λ (x : Result StepReply Refusal). Goes w o t (Stepped p x)) (sym e) answered
    step_goes grows reply (inr e) =
        let on_way = way_of i.object (tie_goes w.snap i.object (SnapStepped p (Err NoMemory)) i.tie (inr (refl, e.1.1))).1 in
        let k = lacks e.1.0 on_way in
        let refused : Goes w o t (Stepped p (Err NoMemory)) = record { allowed = inr (record { is = refl; grows = grows w p e.1.1; none_due = k.0; unplaced = k.1 }); timed = tt; tied = i } in
        subst (λ (x : Result StepReply Refusal). Goes w o t (Stepped p x)) (sym e.0) refused
