-- an identity stands in X of just the doors that were entered
use Rattle.std.proofs.Common.{◌≡◌, ◌≢◌, ℕ, ◌+◌, ◌*◌, true, false, cond, ◌⊎◌, inl, inr, List, [], length, Option, Some, None, Ok, Err, Result, refl, sym, ap, subst, ◌∙◌, ◌↔◌}
use Rattle.model_splitter.proofs.grid_lemmas.Common.{cases_Bool, eqb_tells, Participant, Refusal, Registers, answer_of, after_access, memory_steps, set_at, Began, Stepped, VisitStage, Outside, has_entered, x_after, Walker, number_of, walk_of, walker_steps, walker_note, next_access, x_in, IsConsistent, GridState, fresh, grid, empty_doors}
use Rattle.model_steps.specs.declared.refusal.Refusal.TheVariants.{NotBegun, Finished}
use Rattle.model_steps.specs.Participant.{participant_of}
use Rattle.model_steps.specs.World.{begin_refusal, begun_unless, after_begin, after_step_by, step_answer_by}
use Rattle.model_steps.specs.Calls.{Call, next, IsReply, outcome_in, reply_of, lacked_memory}
use Rattle.model_steps.specs.Machine.{Reaches}
use Rattle.model_steps.proofs.cited.MachineLemmas.{after_none, call_leads_on}
use Rattle.model_steps.proofs.cited.RunLemmas.{run_gathers}
use Rattle.model_steps.proofs.cited.WorldKeeps.{stepped}
use Rattle.model_splitter.specs.grid.Entered.{Enters, ShowsWhatWasEntered}
use Rattle.model_splitter.proofs.cited.grid.ConsistentKept.{xs, registers_in, get_or-replicate_same}
use Rattle.model_splitter.proofs.cited.grid.GridTied.{IsTied, grid_fits, tied_always, walkers}

module _ (most b : ℕ) (m : Registers ℕ) (walker : ℕ → Option Walker) (c : IsConsistent most b m walker) where
  -- where anyone has entered, an identity stands in X
  entered_in_x : (k p : ℕ) → has_entered (c.agree.stage k p) ≡ true → x_in m k ≢ 0
  entered_in_x k p h none = absurd (
      let first : has_entered (c.agree.stage k (x_in m k)) ≡ true = (c.agree.doors k).in_x p h in
      let zero : has_entered (c.agree.stage k 0) ≡ true = subst (λ (i : ℕ). has_entered (c.agree.stage k i) ≡ true) none first in
      let outside : c.agree.stage k 0 ≡ Outside = c.agree.absent 0 c.agree.nobody k in
      let never : has_entered Outside ≡ true = rw outside at zero in cc)

  not_nobody : (p : ℕ) (u : Walker) → walker p ≡ Some u → p ≢ 0
  not_nobody p u is e = absurd (let k : Some u ≡ None = sym is ∙ ap walker e ∙ c.agree.nobody in cc)

  -- after an access of p an identity stands in X of its door
  writes_x : (p : ℕ) (u : Walker) → walker p ≡ Some u → (s : VisitStage) → u.visitor.stage ≡ s → x_after p s (x_in m (number_of u.door)) ≢ 0
  writes_x p u is Outside e = not_nobody p u is
  writes_x p u is s e = entered_in_x (number_of u.door) p (ap has_entered ((c.agree.walks p u is).here ∙ e))

  xs_are : (p : ℕ) (u : Walker) → walker p ≡ Some u → x_in (after_access m (next_access u)) ≡ set_at (x_in m) (number_of u.door) (x_after p u.visitor.stage (x_in m (number_of u.door)))
  xs_are p u is = let walk = c.agree.walks p u is in xs m p u walk.identity walk.x walk.y (registers_in most b m walker c p u is)

  -- an access of p puts an identity into X of its door, and changes no other's
  pub access_writes : (p : ℕ) (u : Walker) → walker p ≡ Some u → (k : ℕ) → (x_in (after_access m (next_access u)) k ≢ 0) ↔ ((number_of u.door ≡ k) ⊎ (x_in m k ≢ 0))
  access_writes p u is k =
      let now : x_in (after_access m (next_access u)) k ≡ set_at (x_in m) (number_of u.door) (x_after p u.visitor.stage (x_in m (number_of u.door))) k = ap (λ (f : ℕ → ℕ). f k) (xs_are p u is) in
      elim (eqb_tells k (number_of u.door)) [
        | inl e ↦
            let there : x_in (after_access m (next_access u)) k ≡ x_after p u.visitor.stage (x_in m (number_of u.door)) = now ∙ rw e.0 refl in
            (λ _. inl (sym e.1), λ _ none. writes_x p u is u.visitor.stage refl (sym there ∙ none))
        | inr e ↦
            let there : x_in (after_access m (next_access u)) k ≡ x_in m k = now ∙ rw e.0 refl in
            (λ some. inr (λ none. some (there ∙ none)), λ o. elim o [ inl at ↦ absurd (e.1 (sym at)) | inr some ↦ λ none. some (sym there ∙ none) ])
      ]

abbrev next_of : GridState → Call (Option ℕ) → GridState
next_of w h = next walker_steps memory_steps outcome_in walk_of w h

abbrev IsReplyOf : GridState → Call (Option ℕ) → Type 0
IsReplyOf w h = IsReply walker_steps memory_steps outcome_in walk_of w h

-- after a call an identity stands in X where one stood, and at the door that it enters
abbrev NamedBy : GridState → GridState → Call (Option ℕ) → ℕ → Type 0
NamedBy w new h k = (x_in new.memory k ≢ 0) ↔ (Enters w h k ⊎ (x_in w.memory k ≢ 0))

-- one that enters no door
quiet_call : (w new : GridState) (h : Call (Option ℕ)) (k : ℕ) → new.memory ≡ w.memory → (Enters w h k → ⊥) → NamedBy w new h k
quiet_call w new h k same none =
    let xs_same : x_in new.memory k ≡ x_in w.memory k = ap (λ m. x_in m k) same in
    (λ some. inr (λ zero. some (xs_same ∙ zero)), λ o. elim o [ inl at ↦ absurd (none at) | inr some ↦ λ zero. some (sym xs_same ∙ zero) ])

memory_begun : (w : GridState) (id : ℕ) → (after_begin w id (walk_of id)).memory ≡ w.memory
memory_begun w id = elim (begin_refusal w id) as (λ o. (begun_unless o w id (walk_of id)).memory ≡ w.memory) [ None ↦ refl | Some why ↦ refl ]

module _ (w : GridState) (past : List (Call (Option ℕ))) (t : IsTied w past) where
  going_call : (id : ℕ) (v : Participant Walker) → participant_of id w.participants ≡ Some v → (outcome : Option ℕ) (k : ℕ) → NamedBy w (stepped walker_steps memory_steps outcome_in walk_of w v) (Stepped id (Ok outcome)) k
  going_call id v here outcome k =
      let is : walkers w.participants id ≡ Some v.program = rw here refl in
      let change = access_writes w.most (length w.participants) w.memory (walkers w.participants) t.consistent id v.program is k in (
        λ some. elim (change.0 some) [ inl at ↦ inl (v.program, is, at) | inr stood ↦ inr stood ],
        λ o. elim o [
          | inl e ↦ change.1 (inl (let own : v.program ≡ e.0 = (let both : Some v.program ≡ Some e.0 = sym is ∙ e.1 in cc) in ap (λ (u : Walker). number_of u.door) own ∙ e.2))
          | inr stood ↦ change.1 (inr stood)
        ],
      )

  abbrev replied : Option (Participant Walker) → Result (Option ℕ) Refusal
  replied o = reply_of outcome_in (step_answer_by walker_steps memory_steps w.memory o)

  abbrev StepNames : ℕ → ℕ → Option (Participant Walker) → Type 0
  StepNames id k o = NamedBy w (cond (lacked_memory (replied o)) w (after_step_by walker_steps memory_steps w o)) (Stepped id (replied o)) k

  step_call : (id : ℕ) (k : ℕ) → StepNames id k (participant_of id w.participants)
  step_call id k =
      elim (participant_of id w.participants) as (λ o. participant_of id w.participants ≡ o → StepNames id k o) [
        | None ↦ λ _. quiet_call w w (Stepped id (Err NotBegun)) k refl (λ never. never)
        | Some v ↦ λ here. elim (cases_Bool v.ended) [
          | inl e ↦ rw e (quiet_call w w (Stepped id (Err Finished)) k refl (λ never. never))
          | inr e ↦ rw e (going_call id v here (outcome_in (walker_note v.program (answer_of w.memory (next_access v.program)))) k)
        ]
      ] refl

  one_call : (h : Call (Option ℕ)) → IsReplyOf w h → (k : ℕ) → NamedBy w (next_of w h) h k
  one_call (Began id reply) is k = quiet_call w (next_of w (Began id reply)) (Began id reply) k (memory_begun w id) (λ never. never)
  one_call (Stepped id reply) (inl is) k = subst (λ (x : Result (Option ℕ) Refusal). NamedBy w (next_of w (Stepped id x)) (Stepped id x) k) (sym is) (step_call id k)
  one_call (Stepped id reply) (inr is) k = absurd (let yes_may : false ≡ true = sym (grid_fits w id) ∙ is.1 in cc)

-- an identity stands in X of just the doors that were entered
pub written_entered : (w : GridState) → ShowsWhatWasEntered w
written_entered w most r a k =
    let over = run_gathers next_of IsReplyOf (Reaches grid most) (λ u past h b is. call_leads_on grid u (next_of u h) h refl is most past b) (λ u h. Enters u h k) (λ u. x_in u.memory k ≢ 0)
    (λ u past h b is. one_call u past (tied_always u most past b) h is k) (fresh most) [] r w (after_none grid most a.started) a.run in
    let unwritten : x_in (empty_doors most) k ≡ 0 = get_or-replicate_same (most * (most + 1)) (2 * k) 0 in
    (λ some. elim (over.0 some) [ inl yes_entered ↦ yes_entered | inr written ↦ absurd (written unwritten) ], λ yes_entered. over.1 (inl yes_entered))
