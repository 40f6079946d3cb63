-- how many steps each has made, by how many proposals
use Rattle.std.proofs.Common.{◌/◌, ◌≡◌, ◌≢◌, ℕ, zero, suc, ◌+◌, ◌*◌, ◌<◌, ◌≤◌, ◌==◌, Bool, true, false, cond, List, [], ◌∷◌, ◌++◌, ◌⊎◌, Some, Ok, Err, is_some, not, inl, inr, refl, sym, ap, subst, ◌∙◌, arith, add-one, mul-le-mul_right, add-mul, one-mul}
use Rattle.model_renaming.proofs.Common.{eqb_tells, set_at, set_at-same, set_at-other, Call, Began, Stepped, StepReply, Quiet, Placed, Proposed, Saw, Named, Spent, SnapBounds, Pace, InTime, IsInTime, most_steps, paced, paced_step, ToGo, ToPropose, ToLook, RenameTerms, RenameObject, Allows, after, new_object, steps_by, next_proposal}
use Rattle.model_steps.specs.Calls.{steps_of}
use Rattle.model_steps.proofs.cited.WorldKeeps.{steps_of-push}
use Rattle.model_renaming.specs.Pace.{Phase, new_pace, first_phase}
use Rattle.model_renaming.specs.Pace.Phase.{AtEnd}
use Rattle.model_renaming.specs.RenameObject.{no_begin, after_step, AllowsStep}
use Rattle.model_renaming.specs.Ends.{steps_among, EndsAmong}
use Rattle.model_renaming.proofs.Ruled.{IsRuled, MayStep, not_begun, may_step, proposals_by}
use Rattle.model_renaming.proofs.rounds.StepCases.{was_begun}
use Rattle.model_asked.specs.rounds.Rounds.{most_proposals, made_by}
use Rattle.model_asked.proofs.cited.rounds.Whole.{rounds_end, more_proposals}
use Rattle.model_asked.proofs.cited.rounds.Sharing.{shared}
use Rattle.std.proofs.lemmas.Map.Views.{Contains-from_any}
use Rattle.std.proofs.lemmas.Bool.Decides.{Decides-eqb}

-- the most steps of what is done next that are made so far, where so many have begun
abbrev pub cap : SnapBounds → ℕ → Phase → ℕ
cap bounds b ToGo = bounds.placing b
cap bounds b (ToPropose n) = bounds.scanning b
cap bounds b ToLook = bounds.scanning b
cap bounds b AtEnd = 0

-- the steps of a round
abbrev pub round : SnapBounds → ℕ → ℕ
round bounds b = 2 * bounds.scanning b + 1

-- all steps that were made, by the number of proposals and the steps of what is done next
abbrev pub Fits : SnapBounds → ℕ → Phase → ℕ → ℕ → ℕ → Type 0
Fits bounds b ToGo count steps made = made ≤ steps
Fits bounds b (ToPropose n) count steps made = made ≤ bounds.placing b + count * round bounds b + steps
Fits bounds b ToLook count steps made = made + bounds.scanning b ≤ bounds.placing b + count * round bounds b + steps
Fits bounds b AtEnd count steps made = Unit {0}

pub record Clock (bounds : SnapBounds) (b : ℕ) (phase : Phase) (count steps made : ℕ) : Type 0 where
  pub waits : steps ≤ cap bounds b phase
  pub fits : Fits bounds b phase count steps made

-- what rises by each one rises
rises : (f : ℕ → ℕ) → ((b : ℕ) → f b ≤ f (b + 1)) → (a b : ℕ) → a ≤ b → f a ≤ f b
rises f one a zero l = let e : a ≡ 0 = omega arith in rw e (omega arith)
rises f one a (suc b) l = elim (eqb_tells a (suc b)) [
  | inl e ↦ rw e.1 (omega arith)
  | inr e ↦
      let other = e.1 in
      let below = rises f one a b (omega arith) in
      let next : f b ≤ f (suc b) = subst (λ z. f b ≤ f z) (add-one b) (one b) in
      omega arith
]

-- bounds that rise with how many have begun
pub record AreRising (bounds : SnapBounds) : Type 0 where
  pub placing : (a b : ℕ) → a ≤ b → bounds.placing a ≤ bounds.placing b
  pub scanning : (a b : ℕ) → a ≤ b → bounds.scanning a ≤ bounds.scanning b

pub are_rising : (bounds : SnapBounds) → ((b : ℕ) → bounds.placing b ≤ bounds.placing (b + 1)) → ((b : ℕ) → bounds.scanning b ≤ bounds.scanning (b + 1)) → AreRising bounds
are_rising bounds farther longer = record { placing = rises bounds.placing farther; scanning = rises bounds.scanning longer }

pub record IsClocked (terms : RenameTerms) (bounds : SnapBounds) (r : List (Call StepReply)) (o : RenameObject) (t : Pace) : Type 0 where
  pub as_many : t.begun ≡ o.many
  pub counted : (q : ℕ) → o.count q ≤ o.last
  pub unmade : (q : ℕ) → o.begun q ≡ false → steps_of q r ≡ 0
  pub clock : (b q : ℕ) → t.begun ≤ b → o.begun q ≡ true → Clock bounds b (t.phase q) (o.count q) (t.steps q) (steps_of q r)
  pub ended : (q : ℕ) → o.begun q ≡ true → t.phase q ≡ AtEnd → (is_some (o.name q) ≡ true) ⊎ (o.spent q ≡ true)
  pub spent : (q : ℕ) → o.spent q ≡ true → o.count q ≡ terms.limit

one_more : (c x : ℕ) → (c + 1) * x ≡ c * x + x
one_more c x = add-mul c 1 x ∙ ap (λ y. c * x + y) (one-mul x)

module _ (bounds : SnapBounds) (rising : AreRising bounds) (b : ℕ) where
  -- a step of one that stands so, by its reply
  next_clock : (phase : Phase) (count steps made : ℕ) (begun : ℕ) → begun ≤ b → Clock bounds b phase count steps made → steps + 1 < most_steps bounds begun phase → Clock bounds b phase count (steps + 1) (made + 1)
  next_clock ToGo count steps made begun l c m = let up = rising.placing begun b l in let f = c.fits in record { waits = omega arith; fits = omega arith }
  next_clock (ToPropose n) count steps made begun l c m = let up = rising.scanning begun b l in let f = c.fits in record { waits = omega arith; fits = omega arith }
  next_clock ToLook count steps made begun l c m = let up = rising.scanning begun b l in let f = c.fits in record { waits = omega arith; fits = omega arith }
  next_clock AtEnd count steps made begun l c m = absurd (omega arith)

  placed_clock : (count steps made n begun : ℕ) → begun ≤ b → Clock bounds b ToGo count steps made → steps + 1 ≤ bounds.placing begun → Clock bounds b (ToPropose n) count 0 (made + 1)
  placed_clock count steps made n begun l c m = let up = rising.placing begun b l in let f = c.fits in record { waits = omega arith; fits = omega arith }

  proposed_clock : (count steps made n begun : ℕ) → begun ≤ b → Clock bounds b (ToPropose n) count steps made → steps + 1 ≤ bounds.scanning begun + 1 → Clock bounds b ToLook (count + 1) 0 (made + 1)
  proposed_clock count steps made n begun l c m = let up = rising.scanning begun b l in let f = c.fits in let g = one_more count (round bounds b) in record { waits = omega arith; fits = omega arith }

  saw_clock : (count steps made n begun : ℕ) → begun ≤ b → Clock bounds b ToLook count steps made → steps + 1 ≤ bounds.scanning begun → Clock bounds b (ToPropose n) count 0 (made + 1)
  saw_clock count steps made n begun l c m = let up = rising.scanning begun b l in let f = c.fits in record { waits = omega arith; fits = omega arith }

  end_clock : (count made : ℕ) → Clock bounds b AtEnd count 0 made
  end_clock count made = record { waits = omega arith; fits = tt }

  first_clock : (first : Phase) → (first ≡ ToGo) ⊎ (first ≡ ToPropose 1) → (count : ℕ) → Clock bounds b first count 0 0
  first_clock first (inl e) count = rw e (record { waits = omega arith; fits = omega arith })
  first_clock first (inr e) count = rw e (record { waits = omega arith; fits = omega arith })

  same_clock : (phase new : Phase) (count steps made count' steps' made' : ℕ) → new ≡ phase → count' ≡ count → steps' ≡ steps → made' ≡ made → Clock bounds b phase count steps made → Clock bounds b new count' steps' made'
  same_clock phase new count steps made count' steps' made' e f g k c = rw (e, f, g, k) c

module _ (terms : RenameTerms) (bounds : SnapBounds) (rising : AreRising bounds) where
  abbrev Clocked : List (Call StepReply) → RenameObject → Pace → Type 0
  Clocked = IsClocked terms bounds

  pub clocked_fresh : Clocked [] new_object new_pace
  clocked_fresh = record {
    as_many = refl;
    counted = λ q. omega arith;
    unmade = λ q e. refl;
    clock = λ b q l e. absurd (cc);
    ended = λ q e. absurd (cc);
    spent = λ q e. absurd (cc);
  }

  -- a refused call counts for nothing
  refused : (r : List (Call StepReply)) (o : RenameObject) (t : Pace) (h : Call StepReply) → ((q : ℕ) → steps_by q h ≡ 0) → Clocked r o t → Clocked (r ++ h ∷ []) o t
  refused r o t h none k =
      let same : (q : ℕ) → steps_of q (r ++ h ∷ []) ≡ steps_of q r = (λ q. let e = steps_of-push q r h in let f = none q in omega arith) in
      record {
        as_many = k.as_many;
        counted = k.counted;
        unmade = λ q e. same q ∙ k.unmade q e;
        clock = λ b q l e. same_clock bounds rising b (t.phase q) (t.phase q) (o.count q) (t.steps q) (steps_of q r) (o.count q) (t.steps q) (steps_of q (r ++ h ∷ [])) refl refl refl (same q) (k.clock b q l e);
        ended = k.ended;
        spent = k.spent;
      }

  first_of : (first_phase bounds ≡ ToGo) ⊎ (first_phase bounds ≡ ToPropose 1)
  first_of = elim (bounds.placing 1 == 0) as (λ b. (cond b (ToPropose 1) ToGo ≡ ToGo) ⊎ (cond b (ToPropose 1) ToGo ≡ ToPropose 1)) [ true ↦ inr refl | false ↦ inl refl ]

  begins : (r : List (Call StepReply)) (o : RenameObject) (t : Pace) (p : ℕ) → o.begun p ≡ false → Clocked r o t → Clocked (r ++ Began p (Ok tt) ∷ []) (after o (Began p (Ok tt))) (paced bounds t (Began p (Ok tt)))
  begins r o t p not k =
      let h : Call StepReply = Began p (Ok tt) in
      let same : (q : ℕ) → steps_of q (r ++ h ∷ []) ≡ steps_of q r = (λ q. let e = steps_of-push q r h in omega arith) in
      let old : (q : ℕ) → q ≢ p → set_at o.begun p true q ≡ o.begun q = (λ q n. set_at-other o.begun p true q n) in
      let own : (q : ℕ) → q ≡ p → set_at o.begun p true q ≡ true = (λ q e. ap (set_at o.begun p true) e ∙ set_at-same o.begun p true) in
      let phase_own : (q : ℕ) → q ≡ p → set_at t.phase p (first_phase bounds) q ≡ first_phase bounds = (λ q e. ap (set_at t.phase p (first_phase bounds)) e ∙ set_at-same t.phase p (first_phase bounds)) in
      let steps_own : (q : ℕ) → q ≡ p → set_at t.steps p 0 q ≡ 0 = (λ q e. ap (set_at t.steps p 0) e ∙ set_at-same t.steps p 0) in
      record {
        as_many = ap (λ n. n + 1) k.as_many;
        counted = k.counted;
        unmade = λ q e. elim (eqb_tells q p) [
          | inl w ↦ absurd (let no : true ≡ false = sym (own q w.1) ∙ e in cc)
          | inr w ↦ same q ∙ k.unmade q (sym (old q w.1) ∙ e)
        ];
        clock = λ b q l e. elim (eqb_tells q p) [
          | inl w ↦ same_clock bounds rising b (first_phase bounds) (set_at t.phase p (first_phase bounds) q) (o.count q) 0 0 (o.count q) (set_at t.steps p 0 q) (steps_of q (r ++ h ∷ [])) (phase_own q w.1) refl (steps_own q w.1) (same q ∙ k.unmade q (ap o.begun w.1 ∙ not)) (first_clock bounds rising b (first_phase bounds) first_of (o.count q))
          | inr w ↦ same_clock bounds rising b (t.phase q) (set_at t.phase p (first_phase bounds) q) (o.count q) (t.steps q) (steps_of q r) (o.count q) (set_at t.steps p 0 q) (steps_of q (r ++ h ∷ [])) (set_at-other t.phase p (first_phase bounds) q w.1) refl (set_at-other t.steps p 0 q w.1) (same q) (k.clock b q (let a = l in omega arith) (sym (old q w.1) ∙ e))
        ];
        ended = λ q e f. elim (eqb_tells q p) [
          | inl w ↦ absurd (let no : first_phase bounds ≡ AtEnd = sym (phase_own q w.1) ∙ f in elim first_of [ inl g ↦ (let z : ToGo ≡ AtEnd = sym g ∙ no in cc) | inr g ↦ (let z : ToPropose 1 ≡ AtEnd = sym g ∙ no in cc) ])
          | inr w ↦ k.ended q (sym (old q w.1) ∙ e) (sym (set_at-other t.phase p (first_phase bounds) q w.1) ∙ f)
        ];
        spent = k.spent;
      }

  -- an accepted step of p: what the others find, and what p has to show
  record Owes (r : List (Call StepReply)) (o : RenameObject) (t : Pace) (p : ℕ) (reply : StepReply) : Type 0 where
    many : (after_step o p reply).many ≡ o.many
    begun : (after_step o p reply).begun ≡ o.begun
    paced_begun : (paced_step t p reply).begun ≡ t.begun
    later : o.last ≤ (after_step o p reply).last
    count_other : (q : ℕ) → q ≢ p → (after_step o p reply).count q ≡ o.count q
    phase_other : (q : ℕ) → q ≢ p → (paced_step t p reply).phase q ≡ t.phase q
    steps_other : (q : ℕ) → q ≢ p → (paced_step t p reply).steps q ≡ t.steps q
    name_other : (q : ℕ) → q ≢ p → (after_step o p reply).name q ≡ o.name q
    spent_other : (q : ℕ) → q ≢ p → (after_step o p reply).spent q ≡ o.spent q
    count_own : (after_step o p reply).count p ≤ (after_step o p reply).last
    clock_own : (b : ℕ) → t.begun ≤ b → Clock bounds b ((paced_step t p reply).phase p) ((after_step o p reply).count p) ((paced_step t p reply).steps p) (steps_of p r + 1)
    ended_own : (paced_step t p reply).phase p ≡ AtEnd → (is_some ((after_step o p reply).name p) ≡ true) ⊎ ((after_step o p reply).spent p ≡ true)
    spent_own : (after_step o p reply).spent p ≡ true → (after_step o p reply).count p ≡ terms.limit

  steps_by_own : (q p : ℕ) (reply : StepReply) → q ≡ p → steps_by q (Stepped p (Ok reply)) ≡ 1
  steps_by_own q p reply e = elim (eqb_tells p q) [ inl w ↦ rw w.0 refl | inr w ↦ absurd (w.1 (sym e)) ]

  steps_by_other : (q p : ℕ) (reply : StepReply) → q ≢ p → steps_by q (Stepped p (Ok reply)) ≡ 0
  steps_by_other q p reply n = elim (eqb_tells p q) [ inl w ↦ absurd (n (sym w.1)) | inr w ↦ rw w.0 refl ]

  stepped_by : (r : List (Call StepReply)) (o : RenameObject) (t : Pace) (p : ℕ) (reply : StepReply) → o.begun p ≡ true → Clocked r o t → Owes r o t p reply → Clocked (r ++ Stepped p (Ok reply) ∷ []) (after_step o p reply) (paced_step t p reply)
  stepped_by r o t p reply is_begun k w =
      let h : Call StepReply = Stepped p (Ok reply) in
      let o' : RenameObject = after_step o p reply in
      let t' : Pace = paced_step t p reply in
      let own : (q : ℕ) → q ≡ p → steps_of q (r ++ h ∷ []) ≡ steps_of q r + 1 = (λ q e. let a = steps_of-push q r h in let b = steps_by_own q p reply e in omega arith) in
      let other : (q : ℕ) → q ≢ p → steps_of q (r ++ h ∷ []) ≡ steps_of q r = (λ q n. let a = steps_of-push q r h in let b = steps_by_other q p reply n in omega arith) in
      let was : (q : ℕ) (x : Bool) → o'.begun q ≡ x → o.begun q ≡ x = (λ q x e. sym (ap (λ (f : ℕ → Bool). f q) w.begun) ∙ e) in
      record {
        as_many = w.paced_begun ∙ k.as_many ∙ sym w.many;
        counted = λ q. elim (eqb_tells q p) [
          | inl e ↦ subst (λ u. o'.count u ≤ o'.last) (sym e.1) w.count_own
          | inr e ↦ let a = w.count_other q e.1 in let b = k.counted q in let c = w.later in omega arith
        ];
        unmade = λ q e. elim (eqb_tells q p) [
          | inl f ↦ absurd (let no : true ≡ false = sym is_begun ∙ ap o.begun (sym f.1) ∙ was q false e in cc)
          | inr f ↦ other q f.1 ∙ k.unmade q (was q false e)
        ];
        clock = λ b q l e. elim (eqb_tells q p) [
          | inl f ↦ subst (λ u. Clock bounds b (t'.phase u) (o'.count u) (t'.steps u) (steps_of u (r ++ h ∷ []))) (sym f.1) (
              same_clock bounds rising b (t'.phase p) (t'.phase p) (o'.count p) (t'.steps p) (steps_of p r + 1) (o'.count p) (t'.steps p) (steps_of p (r ++ h ∷ [])) refl refl refl (own p refl) (w.clock_own b (let a = w.paced_begun in omega arith)))
          | inr f ↦ same_clock bounds rising b (t.phase q) (t'.phase q) (o.count q) (t.steps q) (steps_of q r) (o'.count q) (t'.steps q) (steps_of q (r ++ h ∷ [])) (w.phase_other q f.1) (w.count_other q f.1) (w.steps_other q f.1) (other q f.1) (k.clock b q (let a = w.paced_begun in omega arith) (was q true e))
        ];
        ended = λ q e f. elim (eqb_tells q p) [
          | inl g ↦ subst (λ u. (is_some (o'.name u) ≡ true) ⊎ (o'.spent u ≡ true)) (sym g.1) (w.ended_own (ap t'.phase (sym g.1) ∙ f))
          | inr g ↦ elim (k.ended q (was q true e) (sym (w.phase_other q g.1) ∙ f)) [
            | inl a ↦ inl (ap is_some (w.name_other q g.1) ∙ a)
            | inr a ↦ inr (w.spent_other q g.1 ∙ a)
          ]
        ];
        spent = λ q e. elim (eqb_tells q p) [
          | inl g ↦ subst (λ u. o'.count u ≡ terms.limit) (sym g.1) (w.spent_own (ap o'.spent (sym g.1) ∙ e))
          | inr g ↦ w.count_other q g.1 ∙ k.spent q (sym (w.spent_other q g.1) ∙ e)
        ];
      }

  -- p turns to another phase, with no proposal
  turned_clock : (t : Pace) (p : ℕ) (phase : Phase) (b count made : ℕ) → Clock bounds b phase count 0 made → Clock bounds b (set_at t.phase p phase p) count (set_at t.steps p 0 p) made
  turned_clock t p phase b count made c = same_clock bounds rising b phase (set_at t.phase p phase p) count 0 made count (set_at t.steps p 0 p) made (set_at-same t.phase p phase) refl (set_at-same t.steps p 0) refl c

  module _ (r : List (Call StepReply)) (o : RenameObject) (t : Pace) (p : ℕ) (k : Clocked r o t) (may : MayStep o p) where
    -- p's clock, in the phase in which it is
    now : (b : ℕ) (phase : Phase) → t.begun ≤ b → t.phase p ≡ phase → Clock bounds b phase (o.count p) (t.steps p) (steps_of p r)
    now b phase l e = subst (λ x. Clock bounds b x (o.count p) (t.steps p) (steps_of p r)) e (k.clock b p l may.begun)

    not_spent : o.spent p ≡ true → o.count p ≡ terms.limit
    not_spent e = absurd (let no : false ≡ true = sym may.unspent ∙ e in cc)

    turns : (reply : StepReply) (phase : Phase) → ((b : ℕ) → t.begun ≤ b → Clock bounds b phase (o.count p) 0 (steps_of p r + 1)) →
        (b : ℕ) → t.begun ≤ b → Clock bounds b (set_at t.phase p phase p) (o.count p) (set_at t.steps p 0 p) (steps_of p r + 1)
    turns reply phase c b l = turned_clock t p phase b (o.count p) (steps_of p r + 1) (c b l)

    -- what each reply owes
    owes : (reply : StepReply) → AllowsStep terms o p reply → IsInTime bounds t p reply → Owes r o t p reply
    owes Quiet allowed timed = record {
      many = refl;
      begun = refl;
      paced_begun = refl;
      later = omega arith;
      count_other = λ q n. refl;
      phase_other = λ q n. refl;
      steps_other = set_at-other t.steps p (t.steps p + 1);
      name_other = λ q n. refl;
      spent_other = λ q n. refl;
      count_own = k.counted p;
      clock_own = λ b l. same_clock bounds rising b (t.phase p) (t.phase p) (o.count p) (t.steps p + 1) (steps_of p r + 1) (o.count p) (set_at t.steps p (t.steps p + 1) p) (steps_of p r + 1) refl refl (set_at-same t.steps p (t.steps p + 1)) refl (next_clock bounds rising b (t.phase p) (o.count p) (t.steps p) (steps_of p r) t.begun l (k.clock b p l may.begun) timed);
      ended_own = λ e. k.ended p may.begun e;
      spent_own = not_spent;
    }
    owes (Placed x) allowed timed = record {
      many = refl;
      begun = refl;
      paced_begun = refl;
      later = omega arith;
      count_other = λ q n. refl;
      phase_other = set_at-other t.phase p (ToPropose 1);
      steps_other = set_at-other t.steps p 0;
      name_other = λ q n. refl;
      spent_other = λ q n. refl;
      count_own = k.counted p;
      clock_own = turns (Placed x) (ToPropose 1) (λ b l. placed_clock bounds rising b (o.count p) (t.steps p) (steps_of p r) 1 t.begun l (now b ToGo l timed.is) timed.within);
      ended_own = λ e. absurd (let no : ToPropose 1 ≡ AtEnd = sym (set_at-same t.phase p (ToPropose 1)) ∙ e in cc);
      spent_own = not_spent;
    }
    owes (Proposed n) allowed timed = record {
      many = refl;
      begun = refl;
      paced_begun = refl;
      later = omega arith;
      count_other = set_at-other o.count p (o.count p + 1);
      phase_other = set_at-other t.phase p ToLook;
      steps_other = set_at-other t.steps p 0;
      name_other = λ q n. refl;
      spent_other = λ q n. refl;
      count_own = (let a = set_at-same o.count p (o.count p + 1) in let b = k.counted p in omega arith);
      clock_own = λ b l. same_clock bounds rising b ToLook (set_at t.phase p ToLook p) (o.count p + 1) 0 (steps_of p r + 1) (set_at o.count p (o.count p + 1) p) (set_at t.steps p 0 p) (steps_of p r + 1) (set_at-same t.phase p ToLook) (set_at-same o.count p (o.count p + 1)) (set_at-same t.steps p 0) refl (proposed_clock bounds rising b (o.count p) (t.steps p) (steps_of p r) n t.begun l (now b (ToPropose n) l timed.is) timed.within);
      ended_own = λ e. absurd (let no : ToLook ≡ AtEnd = sym (set_at-same t.phase p ToLook) ∙ e in cc);
      spent_own = λ e. absurd (let no : false ≡ true = sym may.unspent ∙ e in cc);
    }
    owes (Saw view) allowed timed = record {
      many = refl;
      begun = refl;
      paced_begun = refl;
      later = omega arith;
      count_other = λ q n. refl;
      phase_other = set_at-other t.phase p (ToPropose (next_proposal p view));
      steps_other = set_at-other t.steps p 0;
      name_other = λ q n. refl;
      spent_other = λ q n. refl;
      count_own = k.counted p;
      clock_own = turns (Saw view) (ToPropose (next_proposal p view)) (λ b l. saw_clock bounds rising b (o.count p) (t.steps p) (steps_of p r) (next_proposal p view) t.begun l (now b ToLook l timed.is) timed.within);
      ended_own = λ e. absurd (let no : ToPropose (next_proposal p view) ≡ AtEnd = sym (set_at-same t.phase p (ToPropose (next_proposal p view))) ∙ e in cc);
      spent_own = not_spent;
    }
    owes (Named n view) allowed timed = record {
      many = refl;
      begun = refl;
      paced_begun = refl;
      later = omega arith;
      count_other = λ q n. refl;
      phase_other = set_at-other t.phase p AtEnd;
      steps_other = set_at-other t.steps p 0;
      name_other = set_at-other o.name p (Some n);
      spent_other = λ q n. refl;
      count_own = k.counted p;
      clock_own = turns (Named n view) AtEnd (λ b l. end_clock bounds rising b (o.count p) (steps_of p r + 1));
      ended_own = λ e. inl (ap is_some (set_at-same o.name p (Some n)));
      spent_own = not_spent;
    }
    owes Spent allowed timed = record {
      many = refl;
      begun = refl;
      paced_begun = refl;
      later = omega arith;
      count_other = λ q n. refl;
      phase_other = set_at-other t.phase p AtEnd;
      steps_other = set_at-other t.steps p 0;
      name_other = λ q n. refl;
      spent_other = set_at-other o.spent p true;
      count_own = k.counted p;
      clock_own = turns Spent AtEnd (λ b l. end_clock bounds rising b (o.count p) (steps_of p r + 1));
      ended_own = λ e. inr (set_at-same o.spent p true);
      spent_own = λ e. allowed.0;
    }

  pub clocked_more : (r : List (Call StepReply)) (o : RenameObject) (t : Pace) → Clocked r o t → (h : Call StepReply) → Allows terms o h → InTime bounds t h → Clocked (r ++ h ∷ []) (after o h) (paced bounds t h)
  clocked_more r o t k (Began p (Ok done)) allowed timed = begins r o t p (not_begun terms o p (was_begun (no_begin terms o p) done allowed)) k
  clocked_more r o t k (Began p (Err why)) allowed timed = refused r o t (Began p (Err why)) (λ q. refl) k
  clocked_more r o t k (Stepped p (Ok reply)) allowed timed = let may = may_step o p allowed.0 in stepped_by r o t p reply may.begun k (owes r o t p k may reply allowed.1 timed)
  clocked_more r o t k (Stepped p (Err why)) allowed timed = refused r o t (Stepped p (Err why)) (λ q. refl) k

  -- so rounds end, where at most b have begun
  module _ (r : List (Call StepReply)) (o : RenameObject) (t : Pace) (ruled : IsRuled o t) (k : Clocked r o t) where
    few : o.last ≤ most_proposals o.many
    few = subst (λ (b : ℕ). o.last ≤ most_proposals b) ruled.many (
        rounds_end (proposals_by ruled.whose o) o.last ruled.ids ruled.rule (λ i a b. Contains-from_any (λ x y. (Decides-eqb x y).0) (ruled.whose i) ruled.ids (ruled.begun (ruled.whose i) (ruled.of i a b))))

    own_few : (p : ℕ) → 2 * made_by (proposals_by ruled.whose o) p o.last ≤ most_proposals o.many + 2
    own_few p = subst (λ (b : ℕ). 2 * made_by (proposals_by ruled.whose o) p o.last ≤ most_proposals b + 2) ruled.many (
        shared (proposals_by ruled.whose o) o.last ruled.ids p ruled.rule (λ i a b. Contains-from_any (λ x y. (Decides-eqb x y).0) (ruled.whose i) ruled.ids (ruled.begun (ruled.whose i) (ruled.of i a b))))

    module _ (b : ℕ) (as_few : o.many ≤ b) where
      half : (p : ℕ) → 2 * o.count p ≤ most_proposals b + 2
      half p = let a = own_few p in let d = ruled.counts p in let c = more_proposals o.many b as_few in omega arith

      sure : (p : ℕ) → most_proposals b + 2 < 2 * terms.limit → o.spent p ≡ false
      sure p l = elim (o.spent p) as (λ z. o.spent p ≡ z → z ≡ false) [
        | false ↦ λ e. refl
        | true ↦ λ e. absurd (let a = k.spent p e in let d = half p in omega arith)
      ] refl

      together : o.last ≤ most_proposals b
      together = let a = few in let c = more_proposals o.many b as_few in omega arith

      never_spent : (p : ℕ) → most_proposals b < terms.limit → o.spent p ≡ false
      never_spent p l = elim (o.spent p) as (λ z. o.spent p ≡ z → z ≡ false) [
        | false ↦ λ e. refl
        | true ↦ λ e. absurd (let a = k.spent p e in let c = k.counted p in let d = together in omega arith)
      ] refl

      products : (p : ℕ) → o.count p * round bounds b ≤ (most_proposals b / 2 + 1) * round bounds b
      products p = mul-le-mul_right (round bounds b) (let d = half p in omega arith)

      by_phase : (p : ℕ) (phase : Phase) → t.phase p ≡ phase → Clock bounds b phase (o.count p) (t.steps p) (steps_of p r) → steps_among bounds b ≤ steps_of p r → t.phase p ≡ AtEnd
      by_phase p ToGo e c l = absurd (let f = c.fits in let g = c.waits in let x = one_more (most_proposals b / 2 + 1) (round bounds b) in omega arith)
      by_phase p (ToPropose n) e c l = absurd (let f = c.fits in let g = c.waits in let x = one_more (most_proposals b / 2 + 1) (round bounds b) in let y = products p in omega arith)
      by_phase p ToLook e c l = absurd (let f = c.fits in let g = c.waits in let x = one_more (most_proposals b / 2 + 1) (round bounds b) in let y = products p in omega arith)
      by_phase p AtEnd e c l = e

      ended : (p : ℕ) → o.begun p ≡ true → steps_among bounds b ≤ steps_of p r → (is_some (o.name p) ≡ true) ⊎ (o.spent p ≡ true)
      ended p begun enough = k.ended p begun (by_phase p (t.phase p) refl (k.clock b p (let a = k.as_many in omega arith) begun) enough)

    pub ends_among : o.many ≤ terms.most → EndsAmong terms bounds o r
    ends_among roomy = record {
      roomy = roomy;
      together = λ b l. together b l;
      each = k.counted;
      half = λ b p l. half b l p;
      ended = λ b p l. ended b l p;
      unspent = λ b p l. never_spent b l p;
      sure = λ b p l. sure b l p;
    }
