-- what ties a splitter's world to the calls that it is after
use Rattle.std.proofs.Common.{◌≡◌, ◌≢◌, ℕ, ◌+◌, ◌<◌, ◌≤◌, true, false, cond, ◌==◌, inl, inr, List, [], ◌∷◌, ◌++◌, length, Option, Some, None, Result, Ok, Err, IfOk, refl, sym, ap, subst, ◌∙◌, arith, is_some, option_map, IsSome}
use Rattle.model_splitter.proofs.Common.{eqb_tells, set_at, set_at-cases, Stop, Right, Down, VisitStage, Outside, WroteX, SawClear, WroteY, Gone, Visitor, DoorSatisfiesSpec, IsSplitter}
use Rattle.std.proofs.Math.Path.{fun_ext}
use Rattle.model_steps.specs.declared.participant.Participant.{Participant}
use Rattle.model_steps.specs.Note.{ends}
use Rattle.model_steps.specs.Participant.{participant_of, program_of, with_participant, beginner}
use Rattle.model_steps.specs.Registers.{answer_of, after_access, memory_steps}
use Rattle.model_steps.specs.Calls.{Call, steps_of, steps_by, outcome_of, outcome_by, outcome_in}
use Rattle.model_steps.specs.Calls.Call.{Began, Stepped}
use Rattle.model_steps.proofs.cited.ParticipantLemmas.{participant_of-push, participant_of-put}
use Rattle.model_steps.proofs.cited.WorldKeeps.{IsLetIn, IsKept, moved, stepped}
use Rattle.model_steps.specs.Reported.{Tells}
use Rattle.model_steps.proofs.cited.ReportedLemmas.{reported_quiet, reported_stepped}
use Rattle.model_steps.specs.Due.{EndsOnce}
use Rattle.model_steps.proofs.cited.DueLemmas.{outcomes_tell, never_grows}
use Rattle.model_steps.specs.Machine.{Reaches, IsProved, SatisfiesSpec, RefusesWhereDue, Extends}
use Rattle.model_steps.proofs.cited.WorldMachineLemmas.{IsTie, tied_after, world_proved, begin_leads_on, step_leads_on, never_lacks, new_after, stays_alike}
use Rattle.model_splitter.specs.Laws.{StaysAlike}
use Rattle.model_steps.specs.World.{after_begin, begin_refusal, done_unless, may_refuse_step}
use Rattle.model_steps.specs.declared.refusal.Refusal.{Refusal}
use Rattle.model_splitter.specs.declared.way.Way.{Way}
use Rattle.model_splitter.specs.Stage.{has_entered, is_gone, x_after, y_after, stage_after}
use Rattle.model_splitter.specs.Visitor.{visitor_steps, access_of, stage_by, note_at, note_after, word_of, IsAccessOf}
use Rattle.model_splitter.specs.Law.{IsSplit, HasEntered, WentBy, SplitterSpec}
use Rattle.model_splitter.specs.Machine.{SplitterState, fresh, visit_of, splitter, splitter_parts, step_reply, world_after_step}
use Rattle.model_splitter.proofs.cited.DoorKept.{kept, law_of, lawful_new}
use Rattle.model_splitter.proofs.cited.VisitorAccess.{is_access_of}

stage_in : Option (Visitor ℕ) → VisitStage
stage_in None = Outside
stage_in (Some v) = v.stage

-- how far each identity has come
stages : List (Participant (Visitor ℕ)) → ℕ → VisitStage
stages ps p = stage_in (program_of p ps)

way_at : VisitStage → Option Way
way_at (Gone way) = Some way
way_at s = None

-- the accesses that a visit has made
accesses : VisitStage → ℕ
accesses Outside = 0
accesses WroteX = 1
accesses SawClear = 2
accesses WroteY = 3
accesses (Gone Stop) = 4
accesses (Gone Right) = 2
accesses (Gone Down) = 4

-- a visit of p to registers 0 and 1, which has ended where its stage says so
pub record IsVisitOf (p : ℕ) (v : Participant (Visitor ℕ)) : Type 0 where
  pub own : v.identity ≡ p
  pub identity : v.program.identity ≡ p
  pub x : v.program.x ≡ 0
  pub y : v.program.y ≡ 1
  pub ended : v.ended ≡ is_gone v.program.stage

pub record IsTied (w : SplitterState) (r : List (Call (Option Way))) : Type 0 where
  registers : length w.memory.values ≡ 2
  visits : (p : ℕ) (v : Participant (Visitor ℕ)) → participant_of p w.participants ≡ Some v → IsVisitOf p v
  door : DoorSatisfiesSpec (word_of w.memory 0) (word_of w.memory 1) (stages w.participants)
  reported : Tells way_at accesses accesses (stages w.participants) r

steps_are : (w : SplitterState) (r : List (Call (Option Way))) → IsTied w r → (p : ℕ) → steps_of p r ≡ accesses (stages w.participants p)
steps_are w r t p = omega (arith, t.reported.at_least p, t.reported.at_most p)

-- a call that is refused
refused : (w : SplitterState) (r : List (Call (Option Way))) (h : Call (Option Way)) → ((p : ℕ) → steps_by p h ≡ 0) → ((p : ℕ) → outcome_by p h ≡ None) → IsTied w r → IsTied w (r ++ h ∷ [])
refused w r h none quiet t = record {
  registers = t.registers;
  visits = t.visits;
  door = t.door;
  reported = reported_quiet way_at accesses accesses (stages w.participants) r t.reported h none quiet;
}

-- one who begins stands outside, as before
begun_kept : (w : SplitterState) (r : List (Call (Option Way))) (id : ℕ) → IsLetIn w id → IsTied w r → IsTied (record { memory = w.memory; most = w.most; participants = w.participants ++ beginner id (visit_of id) ∷ [] }) (r ++ Began id (Ok tt) ∷ [])
unfolding stages stage_in
begun_kept w r id in_ t =
    let push = participant_of-push w.participants (beginner id (visit_of id)) in_.absent in
    let same : stages (w.participants ++ beginner id (visit_of id) ∷ []) ≡ stages w.participants =
    fun_ext (λ q. ap (λ o. stage_in (option_map (λ v. v.program) o)) (push q)
    ∙ set_at-cases (λ z. participant_of z w.participants) id (Some (beginner id (visit_of id))) (λ o. stage_in (option_map (λ v. v.program) o) ≡ stages w.participants q) q
    (λ e. rw (e, in_.absent) refl) (λ _. refl)) in
    record {
      registers = t.registers;
      visits = λ p v h. set_at-cases (λ z. participant_of z w.participants) id (Some (beginner id (visit_of id))) (λ o. o ≡ Some v → IsVisitOf p v) p
          (λ e k. let is : beginner id (visit_of id) ≡ v = cc in subst (λ (u : Participant (Visitor ℕ)). IsVisitOf p u) is (record { own = sym e; identity = sym e; x = refl; y = refl; ended = refl }))
          (λ _ k. t.visits p v k)
          (sym (push p) ∙ h);
      door = rw same t.door;
      reported = rw same (reported_quiet way_at accesses accesses (stages w.participants) r t.reported (Began id (Ok tt)) (λ p. refl) (λ p. refl));
    }

-- an access of a visit that has not ended is one more, and tells the way where it ends
one_more : (p : ℕ) (s : VisitStage) (x y : ℕ) → is_gone s ≡ false → accesses (stage_after p s x y) ≡ accesses s + 1
unfolding accesses
one_more p Outside x y h = refl
one_more p WroteX x y h = elim (y == 0) as (λ t. accesses (cond t SawClear (Gone Right)) ≡ 2) [ true ↦ refl | false ↦ refl ]
one_more p SawClear x y h = refl
one_more p WroteY x y h = elim (x == p) as (λ t. accesses (cond t (Gone Stop) (Gone Down)) ≡ 4) [ true ↦ refl | false ↦ refl ]
one_more p (Gone way) x y h = absurd (cc)

way_reported : (s : VisitStage) → outcome_in (note_at s) ≡ way_at s
unfolding way_at
way_reported Outside = refl
way_reported WroteX = refl
way_reported SawClear = refl
way_reported WroteY = refl
way_reported (Gone way) = refl

end_reported : (s : VisitStage) → ends (note_at s) ≡ is_gone s
end_reported Outside = refl
end_reported s = refl

no_way_yet : (s : VisitStage) → is_gone s ≡ false → way_at s ≡ None
unfolding way_at
no_way_yet Outside h = refl
no_way_yet WroteX h = refl
no_way_yet SawClear h = refl
no_way_yet WroteY h = refl
no_way_yet (Gone way) h = absurd (cc)

-- a step that is accepted
going_kept : (w : SplitterState) (r : List (Call (Option Way))) (id : ℕ) (v : Participant (Visitor ℕ)) → participant_of id w.participants ≡ Some v → v.ended ≡ false → IsTied w r →
    IsTied (stepped visitor_steps memory_steps outcome_in visit_of w v) (r ++ Stepped id (Ok (outcome_in (note_after v.program (answer_of w.memory (access_of v.program))))) ∷ [])
unfolding stages stage_in
going_kept w r id v here goes t =
    let visit = t.visits id v here in
    let new : Participant (Visitor ℕ) = moved visitor_steps memory_steps outcome_in visit_of w.memory v in
    let m' = after_access w.memory (access_of v.program) in
    let access : IsAccessOf w.memory v.program = is_access_of w.memory v.program (λ e. absurd (let n = visit.x in let k = visit.y in omega arith)) (rw (visit.x, t.registers) (omega arith)) (rw (visit.y, t.registers) (omega arith)) in
    let reached : stage_by v.program (answer_of w.memory (access_of v.program)) ≡ stage_after id v.program.stage (word_of w.memory 0) (word_of w.memory 1) = access.stage ∙ rw (visit.identity, visit.x, visit.y) refl in
    let on : is_gone v.program.stage ≡ false = sym visit.ended ∙ goes in
    let stage_is : stages w.participants id ≡ v.program.stage = rw here refl in
    let there : is_some (participant_of v.identity w.participants) ≡ true = rw (visit.own, here) refl in
    let put : (q : ℕ) → participant_of q (with_participant new w.participants) ≡ set_at (λ u. participant_of u w.participants) id (Some new) q = (λ q. participant_of-put w.participants new there q ∙ rw visit.own refl) in
    let after : VisitStage = stage_after id v.program.stage (word_of w.memory 0) (word_of w.memory 1) in
    let all : stages (with_participant new w.participants) ≡ set_at (stages w.participants) id after =
    fun_ext (λ q. ap (λ o. stage_in (option_map (λ u. u.program) o)) (put q)
    ∙ elim (eqb_tells q id) [ inl e ↦ rw (e.0) reached | inr e ↦ rw (e.0) refl ]) in
    let at_x : word_of m' 0 ≡ x_after id v.program.stage (word_of w.memory 0) =
    ap (word_of m') (sym visit.x) ∙ access.x ∙ ap (λ i. x_after i v.program.stage (word_of w.memory v.program.x)) visit.identity ∙ ap (λ x. x_after id v.program.stage (word_of w.memory x)) visit.x in
    let at_y : word_of m' 1 ≡ y_after v.program.stage (word_of w.memory 1) =
    ap (word_of m') (sym visit.y) ∙ access.y ∙ ap (λ x. y_after v.program.stage (word_of w.memory x)) visit.y in
    let way : outcome_in (note_after v.program (answer_of w.memory (access_of v.program))) ≡ way_at after = way_reported (stage_by v.program (answer_of w.memory (access_of v.program))) ∙ ap way_at reached in
    let none : way_at (stages w.participants id) ≡ None = ap way_at stage_is ∙ no_way_yet v.program.stage on in
    let more : accesses after ≡ accesses (stages w.participants id) + 1 = one_more id v.program.stage (word_of w.memory 0) (word_of w.memory 1) on ∙ ap (λ (s : VisitStage). accesses s + 1) (sym stage_is) in
    record {
      registers = access.registers ∙ t.registers;
      visits = λ p u h. set_at-cases (λ z. participant_of z w.participants) id (Some new) (λ o. o ≡ Some u → IsVisitOf p u) p
          (λ e k. let is : new ≡ u = cc in subst (λ (x : Participant (Visitor ℕ)). IsVisitOf p x) is (record { own = visit.own ∙ sym e; identity = visit.identity ∙ sym e; x = visit.x; y = visit.y; ended = end_reported new.program.stage }))
          (λ _ k. t.visits p u k)
          (sym (put p) ∙ h);
      door = rw (all, at_x, at_y) (kept (word_of w.memory 0) (word_of w.memory 1) (stages w.participants) id t.door v.program.stage stage_is);
      reported = rw all (reported_stepped way_at accesses accesses (stages w.participants) r t.reported id after (outcome_in (note_after v.program (answer_of w.memory (access_of v.program)))) none way (omega (arith, more)) (omega (arith, more)));
    }

-- each call keeps the tie
tie_kept : IsKept visitor_steps memory_steps outcome_in visit_of IsTied
tie_kept = record {
  refused_begin = λ w r id why t. refused w r (Began id (Err why)) (λ _. refl) (λ _. refl) t;
  refused_step = λ w r id why t. refused w r (Stepped id (Err why)) (λ _. refl) (λ _. refl) t;
  begun = begun_kept;
  gone_on = going_kept;
}

-- a splitter that no one has entered
tied_new : (most : ℕ) → IsTied (fresh most) []
unfolding stages stage_in way_at accesses
tied_new most = record {
  registers = refl;
  visits = λ p v h. absurd (cc);
  door = lawful_new 0;
  reported = record { outcomes = λ p. refl; at_least = λ p. omega arith; at_most = λ p. omega arith };
}

-- what the accesses of a visit tell
entered_by : (s : VisitStage) → 0 < accesses s → has_entered s ≡ true
unfolding accesses
entered_by Outside h = absurd (omega arith)
entered_by WroteX h = refl
entered_by SawClear h = refl
entered_by WroteY h = refl
entered_by (Gone way) h = refl

some_access : (s : VisitStage) → has_entered s ≡ true → 0 < accesses s
unfolding accesses
some_access Outside h = absurd (cc)
some_access WroteX h = omega arith
some_access SawClear h = omega arith
some_access WroteY h = omega arith
some_access (Gone Stop) h = omega arith
some_access (Gone Right) h = omega arith
some_access (Gone Down) h = omega arith

few_accesses : (s : VisitStage) → accesses s ≤ 4
unfolding accesses
few_accesses Outside = omega arith
few_accesses WroteX = omega arith
few_accesses SawClear = omega arith
few_accesses WroteY = omega arith
few_accesses (Gone Stop) = omega arith
few_accesses (Gone Right) = omega arith
few_accesses (Gone Down) = omega arith

fourth_ends : (s : VisitStage) → accesses s ≡ 4 → IsSome (way_at s)
unfolding accesses way_at
fourth_ends Outside h = absurd (omega arith)
fourth_ends WroteX h = absurd (omega arith)
fourth_ends SawClear h = absurd (omega arith)
fourth_ends WroteY h = absurd (omega arith)
fourth_ends (Gone way) h = refl

gone_by : (s : VisitStage) (way : Way) → way_at s ≡ Some way → s ≡ Gone way
unfolding way_at
gone_by Outside way h = absurd (cc)
gone_by WroteX way h = absurd (cc)
gone_by SawClear way h = absurd (cc)
gone_by WroteY way h = absurd (cc)
gone_by (Gone taken) way h = cc

-- what each took, from the calls to the visits
took : (w : SplitterState) (r : List (Call (Option Way))) → IsTied w r → (p : ℕ) (way : Way) → outcome_of p r ≡ Some way → stages w.participants p ≡ Gone way
took w r t p way h = gone_by (stages w.participants p) way (sym (t.reported.outcomes p) ∙ h)

entered : (w : SplitterState) (r : List (Call (Option Way))) → IsTied w r → (p : ℕ) → 0 < steps_of p r → has_entered (stages w.participants p) ≡ true
entered w r t p h = entered_by (stages w.participants p) (omega (arith, h, steps_are w r t p))

split_by : (w : SplitterState) (r : List (Call (Option Way))) → IsTied w r → IsSplit (HasEntered r) (WentBy r)
split_by w r t =
    let law : IsSplitter (stages w.participants) = law_of (word_of w.memory 0) (word_of w.memory 1) (stages w.participants) t.door in
    record {
      one_stops = λ p q h k. law.one_stops p q (took w r t p Stop h) (took w r t q Stop k);
      not_all_right = λ p h.
          let other = law.not_all_right p (entered w r t p h) in
          (other.0, omega (arith, some_access (stages w.participants other.0) other.1, steps_are w r t other.0), λ right. other.2 (took w r t other.0 Right right));
      not_all_down = λ p h.
          let other = law.not_all_down p (entered w r t p h) in
          (other.0, omega (arith, some_access (stages w.participants other.0) other.1, steps_are w r t other.0), λ down. other.2 (took w r t other.0 Down down));
    }

-- who entered alone and whose visit has ended has stopped
alone : (r : List (Call (Option Way))) → IsSplit (HasEntered r) (WentBy r) → (p : ℕ) → HasEntered r p → ((q : ℕ) → HasEntered r q → q ≡ p) → (way : Way) → WentBy r p way → way ≡ Stop
alone r split p in_ only Stop h = refl
alone r split p in_ only Right h =
    let other = split.not_all_right p in_ in
    absurd (other.2 (subst (λ (q : ℕ). WentBy r q Right) (sym (only other.0 other.1)) h))
alone r split p in_ only Down h =
    let other = split.not_all_down p in_ in
    absurd (other.2 (subst (λ (q : ℕ). WentBy r q Down) (sym (only other.0 other.1)) h))

other_accesses : (way : Way) → way ≢ Right → accesses (Gone way) ≡ 4
unfolding accesses
other_accesses Stop h = refl
other_accesses Right h = absurd (h refl)
other_accesses Down h = refl

tied_law : (w : SplitterState) (r : List (Call (Option Way))) → IsTied w r → EndsOnce is_some r → SplitterSpec r
unfolding accesses
tied_law w r t once =
    let split = split_by w r t in
    record {
      split = split;
      at_most_four = λ p. omega (arith, few_accesses (stages w.participants p), steps_are w r t p);
      fourth_ends = λ p h. rw (t.reported.outcomes p) (fourth_ends (stages w.participants p) (sym (steps_are w r t p) ∙ h));
      right_at_two = λ p h. steps_are w r t p ∙ ap accesses (took w r t p Right h);
      else_at_four = λ p way n h. steps_are w r t p ∙ ap accesses (took w r t p way h) ∙ other_accesses way n;
      alone_stops = λ p only way h.
          let gone = took w r t p way h in
          let entered : has_entered (stages w.participants p) ≡ true = rw gone refl in
          alone r split p (omega (arith, some_access (stages w.participants p) entered, steps_are w r t p)) only way h;
      ends_once = once;
    }

tie : IsTie splitter_parts IsTied
tie = record { tells = outcomes_tell; grows = never_grows; new = λ most may. tied_new most; kept = tie_kept; law = tied_law }

-- so a splitter's world is proved, and each who has begun makes a visit to its two registers
pub splitter_proved : IsProved splitter
splitter_proved = world_proved splitter_parts IsTied tie

pub visits_always : (most : ℕ) (w : SplitterState) (r : List (Call (Option Way))) → Reaches splitter most w r → (p : ℕ) (v : Participant (Visitor ℕ)) → participant_of p w.participants ≡ Some v → IsVisitOf p v
visits_always most w r a = (tied_after splitter_parts IsTied tie most w r a).visits

pub splitter_law : (w : SplitterState) → SatisfiesSpec splitter w
splitter_law w = splitter_proved.law w

pub splitter_due : (w : SplitterState) → RefusesWhereDue splitter w
splitter_due w = splitter_proved.due w

pub splitter_opens : (most : ℕ) (r : Result SplitterState Refusal) → IfOk r (λ w. w ≡ fresh most) → IfOk r (λ w. Reaches splitter most w [])
splitter_opens most = new_after splitter_parts most tt

pub splitter_begins : (w new : SplitterState) (id : ℕ) (reply : Result (Unit {0}) Refusal) → new ≡ after_begin w id (visit_of id) → reply ≡ done_unless (begin_refusal w id) → Extends splitter w new (Began id reply)
splitter_begins = begin_leads_on splitter_parts

pub splitter_steps : (w new : SplitterState) (id : ℕ) (reply : Result (Option Way) Refusal) → new ≡ world_after_step w id → reply ≡ step_reply w id → Extends splitter w new (Stepped id reply)
splitter_steps = step_leads_on splitter_parts

-- no step lacks memory
pub splitter_fits : (w : SplitterState) (id : ℕ) → may_refuse_step visitor_steps memory_steps w id ≡ false
splitter_fits = never_lacks splitter_parts (λ m a. refl)

pub splitter_stays : (w new : SplitterState) (id : ℕ) → new ≡ world_after_step w id → StaysAlike w new id
splitter_stays = stays_alike splitter_parts

-- what the contracts of its calls are proved by
pub ruleset splitter_contracts = (splitter_law, splitter_due, splitter_begins, splitter_steps, splitter_stays)
