-- what a walk is after an access, and what it says of it
use Rattle.std.proofs.Common.{◌≡◌, ◌↔◌, ℕ, true, false, cond, Some, None, refl, sym}
use Rattle.model_splitter.proofs.tree_lemmas.Common.{Answer, outcome_in, VisitStage, stage_by, TreeValue, Walker, left_child, right_child, reported, walker_at, visit_on, walked_to, walker_after, walker_note, place_of}
use Rattle.model_steps.specs.declared.note.Note.TheVariants.{Quiet, Ended}
use Rattle.model_splitter.specs.Walk.{note_at_door}
use Rattle.model_splitter.proofs.cited.WalkLemmas.{tells_place, ended_is}

-- what a walk says where its visit has come this far tells its place
stage_place : (u : Walker) (s : VisitStage) → outcome_in (note_at_door u.place s) ≡ place_of (walked_to u s)
stage_place u s = tells_place (visit_on u) (walker_at u.visitor.identity (right_child u.place)) (walker_at u.visitor.identity (left_child u.place)) place_of u.place s refl refl refl

-- and so does what it says of any answer
pub place_is_reported : (u : Walker) (got : Answer TreeValue) → place_of u ≡ None → outcome_in (walker_note u got) ≡ place_of (walker_after u got)
place_is_reported u got on = elim u.is_marking as (λ b. outcome_in (cond b Quiet (note_at_door u.place (stage_by u.visitor (reported got)))) ≡ place_of (cond b (record u { is_marking = false }) (walked_to u (stage_by u.visitor (reported got))))) [
  | true ↦ sym on
  | false ↦ stage_place u (stage_by u.visitor (reported got))
]

-- it says that it has ended where it has reached a place
pub ended_there : (u : Walker) (got : Answer TreeValue) (x : ℕ) → place_of u ≡ None → (walker_note u got ≡ Ended x) ↔ (place_of (walker_after u got) ≡ Some x)
ended_there u got x none = rw (sym (place_is_reported u got none)) (ended_is (walker_note u got) x)
