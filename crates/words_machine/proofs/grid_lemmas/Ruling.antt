-- what the rule says of a whole table
use Rattle.std.proofs.Common.{◌≡◌, ℕ, true, false, Option, sym, ap, ◌∙◌, arith}
use Rattle.std.proofs.lemmas.List.{ext_get_or}
use Rattle.model_steps.specs.RegisterState.{Registers}
use Rattle.model_splitter.specs.declared.stage.VisitStage.{VisitStage}
use Rattle.model_splitter.specs.Stage.{has_entered, has_set, went_right, went_down}
use Rattle.model_splitter.proofs.cited.DoorKept.{law_of}
use Rattle.model_splitter.proofs.cited.StageLemmas.{gone_right, gone_down}
use Rattle.model_splitter.specs.declared.grid.walker.Walker.{Walker}
use Rattle.model_splitter.specs.grid.Invariant.{DoorsAgree, x_in, y_in}
use Rattle.model_splitter.proofs.cited.grid.GridTied.{grid_proved, tied_always, place_always}
use Rattle.words_machine.specs.grid.Law.{PlacesAreDistinct, PlacesAreLow, SplitsAtDoors, DoorsSplit}

pub distinct_places : PlacesAreDistinct
distinct_places most words views h p q place at_p at_q =
    (grid_proved.law h.w most h.r h.holds.after).distinct p q place (sym (place_always h.w p most h.r h.holds.after) ∙ at_p) (sym (place_always h.w q most h.r h.holds.after) ∙ at_q)

pub low_places : PlacesAreLow
low_places most words views h p place at = (grid_proved.law h.w most h.r h.holds.after).within p place (sym (place_always h.w p most h.r h.holds.after) ∙ at)

-- who went right has not set Y
right_unset : (s : VisitStage) → went_right s ≡ true → has_set s ≡ false
right_unset s r = ap has_set (gone_right s r)

-- who went down has entered
down_entered : (s : VisitStage) → went_down s ≡ true → has_entered s ≡ true
down_entered s d = ap has_entered (gone_down s d)

-- doors that agree with walks are splitters, at each of which another stays behind
splits_at_doors : (b : ℕ) (m : Registers ℕ) (walker : ℕ → Option Walker) → DoorsAgree b b (x_in m) (y_in m) walker → SplitsAtDoors b m walker
splits_at_doors b m walker agree =
    let splits = (λ (door : ℕ). law_of (x_in m door) (y_in m door) (agree.stage door) (agree.doors door)) in
    record {
      agree = agree;
      splits = splits;
      right = λ door p right.
          let set_by = (agree.doors door).setter (λ clear. let never = (agree.doors door).none_right clear p in cc) in
          (set_by.0, (λ same. let unset : has_set (agree.stage door set_by.0) ≡ false = ap (λ i. has_set (agree.stage door i)) same ∙ right_unset (agree.stage door p) right in let some = set_by.1 in cc), set_by.1);
      down = λ door p down.
          let other = (splits door).not_all_down p (down_entered (agree.stage door p) down) in
          (other.0, (λ same. other.2 (ap (agree.stage door) same ∙ gone_down (agree.stage door p) down)), other.1);
    }

pub doors_split : DoorsSplit
doors_split most words views h =
    let t = tied_always h.w most h.r h.holds.after in
    let registers = h.holds.many in
    let all = h.as_many in
    (ext_get_or 0 h.w.memory.values words (omega arith) (λ k low. h.spelled k (omega arith)), rw t.begun_is (splits_at_doors _ _ _ t.consistent.agree))
