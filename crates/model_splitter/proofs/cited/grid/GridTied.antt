-- what ties a grid's world to the calls that it is after
use Rattle.std.proofs.Common.{◌≡◌, ℕ, suc, ◌≤◌, true, false, List, [], ◌∷◌, ◌++◌, length, Option, Some, None, Result, Ok, Err, IfOk, refl, sym, ap, subst, ◌∙◌, arith, length-append, is_some, option_map}
use Rattle.model_splitter.proofs.grid_lemmas.Common.{fun_ext, Answer, Participant, answer_of, memory_steps, set_at, Began, Stepped, Refusal, VisitStage, Walker, number_of, walk_of, walker_steps, walked_to, walker_after, walker_note, next_access, place_of, place_by, accesses_by, IsConsistent, IsGrid}
use Rattle.model_steps.specs.Note.{ends}
use Rattle.model_steps.specs.Participant.{participant_of, program_of, with_participant, beginner}
use Rattle.model_steps.specs.Calls.{Call, steps_by, outcome_of, outcome_by, outcome_in, begun_in, begun_by}
use Rattle.model_steps.proofs.cited.SetAtLemmas.{set_at-cases, set_at-map}
use Rattle.model_steps.proofs.cited.ParticipantLemmas.{participant_of-push, participant_of-put, length-with_participant}
use Rattle.model_steps.proofs.cited.WorldKeeps.{begun_in-push, IsLetIn, IsKept, moved, stepped}
use Rattle.model_steps.specs.Reported.{Tells}
use Rattle.model_steps.proofs.cited.ReportedLemmas.{reported_quiet, reported_begun, reported_stepped}
use Rattle.model_steps.specs.Due.{EndsOnce}
use Rattle.model_steps.proofs.cited.DueLemmas.{outcomes_tell, never_grows, no_second_end}
use Rattle.model_steps.specs.Machine.{Reaches, OnEveryHistory, IsProved, SatisfiesSpec, RefusesWhereDue, Extends}
use Rattle.model_steps.proofs.cited.WorldMachineLemmas.{IsTie, tied_after, world_proved, begin_leads_on, step_leads_on, never_lacks, new_after, stays_alike}
use Rattle.model_steps.specs.World.{after_begin, begin_refusal, done_unless, may_refuse_step}
use Rattle.model_splitter.specs.grid.Laws.{StaysAlike}
use Rattle.model_splitter.specs.Walk.{note_at_door}
use Rattle.model_splitter.specs.Visitor.{stage_by}
use Rattle.model_splitter.specs.grid.Machine.{GridState, fresh, grid, grid_parts, place_in, step_reply, world_after_step}
use Rattle.model_splitter.specs.grid.Law.{GridSpec}
use Rattle.model_splitter.proofs.cited.grid.ConsistentKept.{consistent_new, begun, gone_on}
use Rattle.model_splitter.proofs.cited.grid.GridLaw.{grid_law, nearer, place_reported}

-- the walk of each identity
abbrev pub walkers : List (Participant Walker) → ℕ → Option Walker
walkers ps p = program_of p ps

-- a participant has its identity, and has ended where its walk has a place
pub record IsParticipantOf (p : ℕ) (v : Participant Walker) : Type 0 where
  pub own : v.identity ≡ p
  pub ended : v.ended ≡ is_some (place_of v.program)

pub record IsTied (w : GridState) (r : List (Call (Option ℕ))) : Type 0 where
  pub consistent : IsConsistent w.most (length w.participants) w.memory (walkers w.participants)
  pub begun_is : begun_in r ≡ length w.participants
  pub known : (p : ℕ) (v : Participant Walker) → participant_of p w.participants ≡ Some v → IsParticipantOf p v
  pub reported : Tells place_by (λ _. 0) accesses_by (walkers w.participants) r

-- a call that is refused
refused : (w : GridState) (r : List (Call (Option ℕ))) (h : Call (Option ℕ)) → ((p : ℕ) → steps_by p h ≡ 0) → ((p : ℕ) → outcome_by p h ≡ None) → begun_by h ≡ 0 → IsTied w r → IsTied w (r ++ h ∷ [])
refused w r h none quiet nobody t = record {
  consistent = t.consistent;
  begun_is = omega (arith, begun_in-push r h, nobody, t.begun_is);
  known = t.known;
  reported = reported_quiet place_by (λ _. 0) accesses_by (walkers w.participants) r t.reported h none quiet;
}

-- one who begins
begun_kept : (w : GridState) (r : List (Call (Option ℕ))) (id : ℕ) → IsLetIn w id → IsTied w r → IsTied (record { memory = w.memory; most = w.most; participants = w.participants ++ beginner id (walk_of id) ∷ [] }) (r ++ Began id (Ok tt) ∷ [])
begun_kept w r id in_ t =
    let all = w.participants ++ beginner id (walk_of id) ∷ [] in
    let push = participant_of-push w.participants (beginner id (walk_of id)) in_.absent in
    let longer : length all ≡ suc (length w.participants) = omega (arith, length-append w.participants (beginner id (walk_of id) ∷ [])) in
    let walks : walkers all ≡ set_at (walkers w.participants) id (Some (walk_of id)) =
    fun_ext (λ q. ap (option_map (λ v. v.program)) (push q) ∙ set_at-map (option_map (λ v. v.program)) (λ u. participant_of u w.participants) id (Some (beginner id (walk_of id))) q) in
    let absent : walkers w.participants id ≡ None = rw in_.absent refl in
    record {
      consistent = rw (longer, walks) (begun w.most (length w.participants) w.memory (walkers w.participants) t.consistent id in_.not_zero absent in_.room);
      begun_is = omega (arith, begun_in-push r (Began id (Ok tt)), t.begun_is, longer);
      known = λ p v h. set_at-cases (λ z. participant_of z w.participants) id (Some (beginner id (walk_of id))) (λ o. o ≡ Some v → IsParticipantOf p v) p
          (λ e k. let is : beginner id (walk_of id) ≡ v = cc in subst (λ (u : Participant Walker). IsParticipantOf p u) is (record { own = sym e; ended = refl }))
          (λ _ k. t.known p v k)
          (sym (push p) ∙ h);
      reported = rw walks (reported_begun place_by (λ _. 0) accesses_by (walkers w.participants) r t.reported id (Some (walk_of id)) (ap place_by absent) (omega arith) (rw absent (omega arith)));
    }

-- a walk says that it has ended where it has a place
end_reported : (u : Walker) (s : VisitStage) → ends (note_at_door (number_of u.door) s) ≡ is_some (place_of (walked_to u s))
end_reported u s = sym (outcomes_tell (note_at_door (number_of u.door) s)) ∙ ap is_some (place_reported u s)

no_place : (o : Option ℕ) → is_some o ≡ false → o ≡ None
no_place None h = refl
no_place (Some k) h = absurd (cc)

-- a step that is accepted
going_kept : (w : GridState) (r : List (Call (Option ℕ))) (id : ℕ) (v : Participant Walker) → participant_of id w.participants ≡ Some v → v.ended ≡ false → IsTied w r →
    IsTied (stepped walker_steps memory_steps outcome_in walk_of w v) (r ++ Stepped id (Ok (outcome_in (walker_note v.program (answer_of w.memory (next_access v.program))))) ∷ [])
going_kept w r id v here goes t =
    let known = t.known id v here in
    let is : walkers w.participants id ≡ Some v.program = rw here refl in
    let on : place_of v.program ≡ None = no_place (place_of v.program) (sym known.ended ∙ goes) in
    let got : Answer ℕ = answer_of w.memory (next_access v.program) in
    let walk : Walker = walker_after v.program got in
    let new : Participant Walker = moved walker_steps memory_steps outcome_in walk_of w.memory v in
    let call : Call (Option ℕ) = Stepped id (Ok (outcome_in (walker_note v.program got))) in
    let there : is_some (participant_of v.identity w.participants) ≡ true = rw (known.own, here) refl in
    let put : (q : ℕ) → participant_of q (with_participant new w.participants) ≡ set_at (λ u. participant_of u w.participants) id (Some new) q = (λ q. participant_of-put w.participants new there q ∙ rw known.own refl) in
    let walks : walkers (with_participant new w.participants) ≡ set_at (walkers w.participants) id (Some walk) = fun_ext (λ q. ap (option_map (λ x. x.program)) (put q) ∙ set_at-map (option_map (λ x. x.program)) (λ u. participant_of u w.participants) id (Some new) q) in
    let many : length (with_participant new w.participants) ≡ length w.participants = length-with_participant w.participants new in
    let more = nearer w.most (length w.participants) w.memory (walkers w.participants) t.consistent id v.program is on got in
    record {
      consistent = rw (many, walks) (gone_on w.most (length w.participants) w.memory (walkers w.participants) t.consistent id v.program is);
      begun_is = omega (arith, begun_in-push r call, t.begun_is, many);
      known = λ p u h. set_at-cases (λ z. participant_of z w.participants) id (Some new) (λ o. o ≡ Some u → IsParticipantOf p u) p
          (λ e k. let same : new ≡ u = cc in subst (λ (x : Participant Walker). IsParticipantOf p x) same (record { own = known.own ∙ sym e; ended = end_reported v.program (stage_by v.program.visitor got) }))
          (λ _ k. t.known p u k)
          (sym (put p) ∙ h);
      reported = rw walks (reported_stepped place_by (λ _. 0) accesses_by (walkers w.participants) r t.reported id (Some walk) (outcome_in (walker_note v.program got))
          (ap place_by is ∙ on) (place_reported v.program (stage_by v.program.visitor got)) (omega arith) (rw is more));
    }

-- each call keeps the tie
pub tie_kept : IsKept walker_steps memory_steps outcome_in walk_of IsTied
tie_kept = record {
  refused_begin = λ w r id why t. refused w r (Began id (Err why)) (λ _. refl) (λ _. refl) refl t;
  refused_step = λ w r id why t. refused w r (Stepped id (Err why)) (λ _. refl) (λ _. refl) refl t;
  begun = begun_kept;
  gone_on = going_kept;
}

-- a grid that no one has entered
pub tied_new : (most : ℕ) → most ≤ 64 → IsTied (fresh most) []
tied_new most few = record {
  consistent = consistent_new most few;
  begun_is = refl;
  known = λ p v h. absurd (cc);
  reported = record { outcomes = λ p. refl; at_least = λ p. omega arith; at_most = λ p. omega arith };
}

-- the steps of one are at most the accesses that its walk may have made, so the law of the walks is that of the calls
tied_law : (w : GridState) (r : List (Call (Option ℕ))) → IsTied w r → EndsOnce is_some r → GridSpec r
tied_law w r t once =
    let law : IsGrid (length w.participants) w.memory (walkers w.participants) = grid_law w.most (length w.participants) w.memory (walkers w.participants) t.consistent in
    record {
      distinct = λ p q place h k. law.distinct p q place (sym (t.reported.outcomes p) ∙ h) (sym (t.reported.outcomes q) ∙ k);
      within = λ p place h. rw t.begun_is (law.within p place (sym (t.reported.outcomes p) ∙ h));
      at_most = λ p. omega (arith, t.reported.at_most p, law.at_most p, t.begun_is);
      last_places = λ p some all. rw (t.reported.outcomes p) (law.last_places p (omega (arith, t.reported.at_most p, some)) (omega (arith, t.reported.at_most p, law.at_most p, t.begun_is, all)));
      ends_once = once;
    }

tie : IsTie grid_parts IsTied
tie = record { tells = outcomes_tell; grows = never_grows; new = tied_new; kept = tie_kept; law = tied_law }

-- so a grid's world is proved, and what it is after is tied to it
pub grid_proved : IsProved grid
grid_proved = world_proved grid_parts IsTied tie

pub tied_always : (w : GridState) → OnEveryHistory grid (λ most r. IsTied w r) w
tied_always w = λ most r a. tied_after grid_parts IsTied tie most w r a

-- nobody gets a second place
pub one_place_reported : (p a b : ℕ) (before between rest : List (Call (Option ℕ))) → GridSpec (before ++ Stepped p (Ok (Some a)) ∷ (between ++ Stepped p (Ok (Some b)) ∷ rest)) → ⊥
one_place_reported p a b before between rest law = no_second_end is_some p (Some a) (Some b) before between rest refl law.ends_once

-- the place at which a walk has ended is the one that was answered
pub place_always : (w : GridState) (p : ℕ) → OnEveryHistory grid (λ most r. place_in w p ≡ outcome_of p r) w
place_always w p most r a = sym ((tied_always w most r a).reported.outcomes p)

-- the law of the doors
pub grid_always : (w : GridState) → OnEveryHistory grid (λ most r. IsGrid (begun_in r) w.memory (walkers w.participants)) w
grid_always w most r a =
    let t = tied_always w most r a in
    rw t.begun_is (grid_law w.most (length w.participants) w.memory (walkers w.participants) t.consistent)

pub grid_law_of : (w : GridState) → SatisfiesSpec grid w
grid_law_of w = grid_proved.law w

pub grid_due : (w : GridState) → RefusesWhereDue grid w
grid_due w = grid_proved.due w

pub grid_opens : (most : ℕ) (r : Result GridState Refusal) → most ≤ 64 → IfOk r (λ w. w ≡ fresh most) → IfOk r (λ w. Reaches grid most w [])
grid_opens most r few = new_after grid_parts most few r

-- no step lacks memory
pub grid_fits : (w : GridState) (id : ℕ) → may_refuse_step walker_steps memory_steps w id ≡ false
grid_fits = never_lacks grid_parts (λ m a. refl)

pub grid_begins : (w new : GridState) (id : ℕ) (reply : Result (Unit {0}) Refusal) → new ≡ after_begin w id (walk_of id) → reply ≡ done_unless (begin_refusal w id) → Extends grid w new (Began id reply)
grid_begins = begin_leads_on grid_parts

pub grid_steps : (w new : GridState) (id : ℕ) (reply : Result (Option ℕ) Refusal) → new ≡ world_after_step w id → reply ≡ step_reply w id → Extends grid w new (Stepped id reply)
grid_steps = step_leads_on grid_parts

pub grid_stays : (w new : GridState) (id : ℕ) → new ≡ world_after_step w id → StaysAlike w new id
grid_stays = stays_alike grid_parts

-- what the contracts of its calls are proved by
pub ruleset grid_contracts = (grid_law_of, grid_due, grid_steps, grid_stays)
