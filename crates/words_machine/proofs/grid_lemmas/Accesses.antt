-- how many accesses a walk has made
use Rattle.std.proofs.Common.{◌≡◌, ℕ, ◌+◌, ◌*◌, ◌<◌, ◌≤◌, true, false, cond, ◌==◌, List, ◌∷◌, [], ◌++◌, Option, Some, None, Ok, Err, refl, sym, ap, ◌∙◌, arith, is_some, option_map}
use Rattle.model_steps.specs.Calls.{Call, steps_of, steps_by, outcome_in}
use Rattle.model_steps.specs.Calls.Call.{Began, Stepped}
use Rattle.model_steps.specs.declared.participant.Participant.{Participant}
use Rattle.model_steps.specs.Machine.{Reaches}
use Rattle.model_steps.specs.Participant.{participant_of, beginner}
use Rattle.model_steps.specs.Registers.{memory_steps, answer_of}
use Rattle.model_steps.proofs.cited.ParticipantLemmas.{participant_of-push, participant_of-put}
use Rattle.model_steps.proofs.cited.SetAtLemmas.{set_at-cases}
use Rattle.model_steps.proofs.cited.WorldKeeps.{IsKept, moved, steps_of-push, world_keeps}
use Rattle.std.proofs.lemmas.Bool.Decides.{Decides-eqb}
use Rattle.std.proofs.Common.{ne_eqb}
use Rattle.model_splitter.specs.declared.stage.VisitStage.{VisitStage}
use Rattle.model_splitter.specs.declared.stage.VisitStage.TheVariants.{Outside, WroteX, SawClear, WroteY, Gone}
use Rattle.model_splitter.specs.declared.way.Way.TheVariants.{Stop, Right, Down}
use Rattle.model_splitter.specs.Stage.{is_gone, stage_after, went_right, went_down}
use Rattle.model_splitter.specs.Visitor.{value_in}
use Rattle.model_splitter.specs.Walk.{accesses_at, place_at_door}
use Rattle.model_splitter.specs.declared.grid.walker.Walker.{Walker}
use Rattle.model_splitter.specs.grid.Door.{number_of}
use Rattle.model_splitter.specs.grid.Machine.{GridState, grid, fresh}
use Rattle.model_splitter.specs.grid.Walk.{walk_of, walker_steps, walked_to, walker_note, next_access}
use Rattle.model_splitter.proofs.cited.grid.ConsistentKept.{deeper_is}
use Rattle.model_splitter.proofs.cited.grid.GridTied.{IsTied, tie_kept, tied_new, walkers}

-- the accesses of a walk that stands here: two at each door that it left to the right, four at each that it left down, and
-- those at its own. Its column is how often it went down, and its depth how many doors it left
abbrev pub accesses_made : Option Walker → ℕ
accesses_made None = 0
accesses_made (Some u) = 2 * (u.door.depth + u.door.column) + accesses_at u.visitor.stage

-- an access of a walk that stands here is one more of those that it made
made_more : (u : Walker) (p x y : ℕ) (s : VisitStage) → u.visitor.stage ≡ s → is_gone s ≡ false → u.door.depth < 255 → u.door.column < 255
    → accesses_made (Some u) + 1 ≡ accesses_made (Some (walked_to u (stage_after p s x y)))
made_more u p x y Outside is on deep wide = rw is (omega arith)
made_more u p x y WroteX is on deep wide =
    let deeper_one = deeper_is u.door.depth deep in
    rw is (elim (y == 0) as (λ t. 2 * (u.door.depth + u.door.column) + accesses_at WroteX + 1 ≡ accesses_made (Some (walked_to u (cond t SawClear (Gone Right))))) [ true ↦ omega arith | false ↦ rw deeper_one (omega arith) ])
made_more u p x y SawClear is on deep wide = rw is (omega arith)
made_more u p x y WroteY is on deep wide =
    let deeper_one = deeper_is u.door.depth deep in
    let wider_one = deeper_is u.door.column wide in
    rw is (elim (x == p) as (λ t. 2 * (u.door.depth + u.door.column) + accesses_at WroteY + 1 ≡ accesses_made (Some (walked_to u (cond t (Gone Stop) (Gone Down))))) [ true ↦ omega arith | false ↦ rw (deeper_one, wider_one) (omega arith) ])
made_more u p x y (Gone way) is on deep wide = absurd (cc)

-- a visit that has not left its door, and has no place there, is not over
not_gone : (k : ℕ) (s : VisitStage) → went_right s ≡ false → went_down s ≡ false → is_some (place_at_door k s) ≡ false → is_gone s ≡ false
not_gone k Outside right down still = refl
not_gone k WroteX right down still = refl
not_gone k SawClear right down still = refl
not_gone k WroteY right down still = refl
not_gone k (Gone Stop) right down still = absurd (cc)
not_gone k (Gone Right) right down still = absurd (cc)
not_gone k (Gone Down) right down still = absurd (cc)

-- the world is tied to the calls, and each identity has made as many accepted steps as its walk has made accesses
record IsCounted (w : GridState) (r : List (Call (Option ℕ))) : Type 0 where
  tied : IsTied w r
  made : (p : ℕ) → steps_of p r ≡ accesses_made (walkers w.participants p)

counted_new : (most : ℕ) → most ≤ 64 → IsCounted (fresh most) []
counted_new most few = record { tied = tied_new most few; made = λ p. refl }

counted_kept : IsKept walker_steps memory_steps outcome_in walk_of IsCounted
counted_kept = record {
  refused_begin = λ w r id why h. record { tied = tie_kept.refused_begin w r id why h.tied; made = λ p. (let more = steps_of-push p r (Began id (Err why)) in let before = h.made p in omega arith) };
  refused_step = λ w r id why h. record { tied = tie_kept.refused_step w r id why h.tied; made = λ p. (let more = steps_of-push p r (Stepped id (Err why)) in let before = h.made p in omega arith) };
  begun = λ w r id in_ h.
      let b : Participant Walker = beginner id (walk_of id) in
      let call : Call (Option ℕ) = Began id (Ok tt) in
      record {
        tied = tie_kept.begun w r id in_ h.tied;
        made = λ p.
            let same : steps_of p (r ++ call ∷ []) ≡ steps_of p r = (let more = steps_of-push p r call in omega arith) in
            same ∙ set_at-cases (λ z. participant_of z w.participants) id (Some b) (λ o. steps_of p r ≡ accesses_made (option_map (λ v. v.program) o)) p
            (λ e. ap (λ q. steps_of q r) e ∙ h.made id ∙ ap (λ o. accesses_made (option_map (λ v. v.program) o)) in_.absent)
            (λ _. h.made p)
            ∙ sym (ap (λ o. accesses_made (option_map (λ v. v.program) o)) (participant_of-push w.participants b in_.absent p));
      };
  gone_on = λ w r id v there goes h.
      let t = h.tied in
      let known = t.known id v there in
      let u : Walker = v.program in
      let answer = answer_of w.memory (next_access u) in
      let call : Call (Option ℕ) = Stepped id (Ok (outcome_in (walker_note u answer))) in
      let new : Participant Walker = moved walker_steps memory_steps outcome_in walk_of w.memory v in
      let walk = t.consistent.agree.walks id u (ap (option_map (λ x. x.program)) there) in
      let within = t.consistent.agree.within u.door.depth u.door.column walk.arrived in
      let inside = walk.inside in
      let room = t.consistent.room in
      let few = t.consistent.few in
      let on = not_gone (number_of u.door) u.visitor.stage walk.not_right walk.not_down (sym known.ended ∙ goes) in
      let more : accesses_made (Some u) + 1 ≡ accesses_made (Some new.program) = made_more u u.visitor.identity (value_in answer) (value_in answer) u.visitor.stage refl on (omega arith) (omega arith) in
      let here : is_some (participant_of v.identity w.participants) ≡ true = ap (λ i. is_some (participant_of i w.participants)) known.own ∙ ap is_some there in
      record {
        tied = tie_kept.gone_on w r id v there goes t;
        made = λ p.
            steps_of-push p r call
            ∙ set_at-cases (λ z. participant_of z w.participants) v.identity (Some new) (λ o. steps_of p r + steps_by p call ≡ accesses_made (option_map (λ x. x.program) o)) p
            (λ e. (let one : steps_by p call ≡ 1 = (let own : p ≡ id = e ∙ known.own in rw (own, (Decides-eqb id id).1 refl) refl) in
            let before : steps_of p r ≡ accesses_made (Some u) = ap (λ q. steps_of q r) (e ∙ known.own) ∙ h.made id ∙ ap (λ o. accesses_made (option_map (λ x. x.program) o)) there in omega arith))
            (λ n. (let none : steps_by p call ≡ 0 = rw (ne_eqb id p (λ e. n (sym e ∙ sym known.own))) refl in let before = h.made p in omega arith))
            ∙ sym (ap (λ o. accesses_made (option_map (λ x. x.program) o)) (participant_of-put w.participants new here p));
      };
}

-- an identity has made as many accepted steps as its walk has made accesses
pub steps_made : (most : ℕ) (w : GridState) (r : List (Call (Option ℕ))) → Reaches grid most w r → (p : ℕ) → steps_of p r ≡ accesses_made (walkers w.participants p)
steps_made most w r a = (world_keeps walker_steps memory_steps outcome_in walk_of IsCounted counted_kept (fresh most) (counted_new most a.started) w r a.run).made
