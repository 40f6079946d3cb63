-- what follows for every world that is a machine
use Rattle.std.proofs.Common.{◌≡◌, ℕ, ◌≤◌, ◌<◌, ◌⊎◌, ◌↔◌, List, [], Some, None, Result, Ok, Err, IfOk, IfErr, inl, inr, refl, ap, sym, subst, ◌∙◌, Bool, true, false, cond, arith}
use Rattle.model_steps.proofs.Common.{Note, Refusal, ProgramSteps, MemorySteps, WorldState, Call, reply_of, lacked_memory, Began, Stepped, participant_of}
use Rattle.model_steps.specs.declared.access.Access.{Access}
use Rattle.model_steps.specs.declared.refusal.Refusal.TheVariants.{NoMemory, OutOfRange}
use Rattle.model_steps.specs.World.{begin_refusal, done_unless, after_begin, after_step, step_answer, may_refuse_by, may_refuse_step}
use Rattle.model_steps.specs.Locality.{Indistinguishable, StandAlike}
use Rattle.model_steps.proofs.cited.LocalityLemmas.{stand_alike}
use Rattle.model_steps.specs.Due.{TellsTheEnd, GrowsOnly, EndsOnce}
use Rattle.model_steps.specs.Machine.{Reaches, Extends, RefusesWhereDue, IsProved}
use Rattle.model_steps.specs.WorldMachine.{WorldParts, world_machine, fresh_world, any_world}
use Rattle.model_steps.proofs.cited.MachineLemmas.{after_none, call_leads_on, machine_proved}
use Rattle.model_steps.proofs.cited.StepLemmas.{lacks_none}
use Rattle.model_steps.proofs.cited.DueLemmas.{world_counted, ends_once}
use Rattle.model_steps.proofs.cited.WorldKeeps.{IsKept, world_keeps}

-- any world is proved
module _ {P S R V O X : Type 0} (program : ProgramSteps P R V O) (memory : MemorySteps S R V) (shown : Note O → X) (start : ℕ → P) (last : X → Bool) (grows : Bool) where
  any_due : (w : WorldState S P) → RefusesWhereDue (any_world program memory shown start last grows) w
  any_due w first r a = λ tells may. (world_counted program memory shown start last grows first.1 tells may first.0 w r a.run).due

  pub any_world_proved : IsProved (any_world program memory shown start last grows)
  any_world_proved = machine_proved (any_world program memory shown start last grows) (λ w first r a tells may. ends_once last first.1 grows r (any_due w first r a tells may)) any_due

  -- a step for which no growth was refused leads on
  pub any_step_leads_on : (w new : WorldState S P) (id : ℕ) (reply : Result X Refusal) → new ≡ after_step program memory w id → reply ≡ reply_of shown (step_answer program memory w id) →
      Extends (any_world program memory shown start last grows) w new (Stepped id reply)
  any_step_leads_on w new id reply e is =
      let goes : lacked_memory reply ≡ false = ap lacked_memory is ∙ lacks_none program memory shown w id in
      call_leads_on (any_world program memory shown start last grows) w new (Stepped id reply) (e ∙ rw goes refl) (inl is)

-- a number in range is not out of range
pub within : {W : Type 0} (low high n : ℕ) (r : Result W Refusal) → low ≤ n → n ≤ high → IfErr r (λ why. why ≡ NoMemory) → r ≡ Err OutOfRange ↔ ((n < low) ⊎ (high < n))
within low high n (Ok w) at_least at_most only = (λ e. cc e, λ out. elim out [ inl less ↦ absurd (omega (arith, less, at_least)) | inr more ↦ absurd (omega (arith, more, at_most)) ])
within low high n (Err why) at_least at_most only = (λ e. absurd (let same : NoMemory ≡ OutOfRange = cc in cc same), λ out. elim out [ inl less ↦ absurd (omega (arith, less, at_least)) | inr more ↦ absurd (omega (arith, more, at_most)) ])

module _ {P S R V O X : Type 0} (parts : WorldParts P S R V O X) where
  -- a new world is after no call
  pub new_after : (most : ℕ) → parts.MayStart most → (r : Result (WorldState S P) Refusal) → IfOk r (λ w. w ≡ fresh_world parts most) → IfOk r (λ w. Reaches (world_machine parts) most w [])
  new_after most may (Ok w) is = subst (λ (u : WorldState S P). Reaches (world_machine parts) most u []) (sym is) (after_none (world_machine parts) most may)
  new_after most may (Err why) is = tt

  -- a prefix leads on
  pub begin_leads_on : (w new : WorldState S P) (id : ℕ) (reply : Result (Unit {0}) Refusal) → new ≡ after_begin w id (parts.start id) → reply ≡ done_unless (begin_refusal w id) →
      Extends (world_machine parts) w new (Began id reply)
  begin_leads_on w new id reply e is = call_leads_on (world_machine parts) w new (Began id reply) e is

  -- so does a step for which no growth was refused
  pub step_leads_on : (w new : WorldState S P) (id : ℕ) (reply : Result X Refusal) → new ≡ after_step parts.program parts.memory w id →
      reply ≡ reply_of parts.shown (step_answer parts.program parts.memory w id) → Extends (world_machine parts) w new (Stepped id reply)
  step_leads_on w new id reply e is =
      let goes : lacked_memory reply ≡ false = ap lacked_memory is ∙ lacks_none parts.program parts.memory parts.shown w id in
      call_leads_on (world_machine parts) w new (Stepped id reply) (e ∙ rw goes refl) (inl is)

  -- no step lacks memory where the memory refuses no access
  pub never_lacks : ((m : S) (a : Access R V) → parts.memory.may_refuse m a ≡ false) → (w : WorldState S P) (id : ℕ) → may_refuse_step parts.program parts.memory w id ≡ false
  never_lacks fits w id = elim (participant_of id w.participants) as (λ o. may_refuse_by parts.program parts.memory w.memory o ≡ false) [
    | None ↦ refl
    | Some v ↦ elim v.ended as (λ b. cond b false (parts.memory.may_refuse w.memory (parts.program.next v.program)) ≡ false) [ true ↦ refl | false ↦ fits w.memory (parts.program.next v.program) ]
  ]

  -- who stands in the new world stands alike in each world that looked alike to it
  pub stays_alike : (w new : WorldState S P) (id : ℕ) → new ≡ after_step parts.program parts.memory w id → (other : WorldState S P) → Indistinguishable parts.program parts.memory id w other →
      StandAlike id new (after_step parts.program parts.memory other id)
  stays_alike w new id e other h = ap (λ u. participant_of id u.participants) e ∙ stand_alike parts.program parts.memory id w other h

  -- each call is refused where that is due
  pub due_always : TellsTheEnd parts.shown parts.last → GrowsOnly parts.memory parts.grows → (w : WorldState S P) → RefusesWhereDue (world_machine parts) w
  due_always tells grows w most r a = (world_counted parts.program parts.memory parts.shown parts.start parts.last parts.grows most tells grows (parts.empty most) w r a.run).due

  -- a fact that the four kinds of call keep, and of which the law follows, proves the world
  pub record IsTie (Tied : WorldState S P → List (Call X) → Type 0) : Type 0 where
    pub tells : TellsTheEnd parts.shown parts.last
    pub grows : GrowsOnly parts.memory parts.grows
    pub new : (most : ℕ) → parts.MayStart most → Tied (fresh_world parts most) []
    pub kept : IsKept parts.program parts.memory parts.shown parts.start Tied
    pub law : (w : WorldState S P) (r : List (Call X)) → Tied w r → EndsOnce parts.last r → parts.Spec r

  module _ (Tied : WorldState S P → List (Call X) → Type 0) (tie : IsTie Tied) where
    pub tied_after : (most : ℕ) (w : WorldState S P) (r : List (Call X)) → Reaches (world_machine parts) most w r → Tied w r
    tied_after most w r a = world_keeps parts.program parts.memory parts.shown parts.start Tied tie.kept (fresh_world parts most) (tie.new most a.started) w r a.run

    pub world_proved : IsProved (world_machine parts)
    world_proved = machine_proved (world_machine parts)
        (λ w most r a. tie.law w r (tied_after most w r a) (ends_once parts.last most parts.grows r (due_always tie.tells tie.grows w most r a)))
        (due_always tie.tells tie.grows)
