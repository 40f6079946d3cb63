-- lines whose answers were lost, one after another
use Rattle.std.proofs.Common.{◌≡◌, ◌∙◌, ℕ, ◌+◌, ◌-◌, ◌<◌, ◌≤◌, Bool, true, false, if◌then◌else◌, List, [], ◌∷◌, ◌++◌, length, take, drop, get_or, Some, None, refl, sym, ap, subst, arith}
use Rattle.std.proofs.lemmas.List.{append-nil, append_assoc, length-drop, take_more, take-append-drop}
use Rattle.std.proofs.lemmas.Bool.{eqb-true}
use Rattle.memchr.specs.Find.{IsFirstByte, is_byte}
use Rattle.text_lines.specs.Lines.{has_no_lf, rest_from, rest_of, whole_lines, whole_lines_from}
use Rattle.text_lines.specs.Meaning.{meaning}
use Rattle.text_lines.specs.lemmas.PieceProofs.{nowhere-lacks}
use Rattle.model_pool.specs.declared.stays.kept_stay.KeptStay.{KeptStay}
use Rattle.model_pool.specs.stays.Stays.{Act, after_acts}
use Rattle.service_loop.proofs.Common.{take-add, WorldKind}
use Rattle.service_loop.specs.declared.attended.Attended.{Attended}
use Rattle.service_loop.specs.Attending.{Hears}
use Rattle.service_loop.specs.Losing.{entered_by, lost_act, lost_acts}
use Rattle.service_loop.proofs.AttendedLemmas.{acts_append}
use Rattle.service_loop.proofs.PeekLemmas.{no_lf_in, rest_append, rest_one, whole_append, whole_none, whole_one}

-- what a line more says
lost_more : (kind : WorldKind) (stays : List KeptStay) (lines : List (List ℕ)) (line : List ℕ) →
    lost_acts kind stays (lines ++ line ∷ []) ≡ lost_acts kind stays lines ++ lost_act (after_acts stays (lost_acts kind stays lines)) (entered_by (meaning kind line))
lost_more kind stays [] line = append-nil (lost_act stays (entered_by (meaning kind line)))
lost_more kind stays (x ∷ xs) line =
    let one = lost_act stays (entered_by (meaning kind x)) in
    let rest = lost_acts kind (after_acts stays one) xs in
    let by : List KeptStay → List Act = λ s. lost_act s (entered_by (meaning kind line)) in
    ap (λ (l : List Act). one ++ l) (lost_more kind (after_acts stays one) xs line ∙ ap (λ (s : List KeptStay). rest ++ by s) (acts_append stays one rest))
    ∙ sym (append_assoc one rest (by (after_acts stays (one ++ rest))))

joined : (k : Bool) (stays : List KeptStay) (acts : List Act) (by : List KeptStay → List Act) →
    (if k then after_acts (if k then after_acts stays acts else stays) (by (if k then after_acts stays acts else stays)) else (if k then after_acts stays acts else stays)) ≡
    (if k then after_acts stays (acts ++ by (after_acts stays acts)) else stays)
joined true stays acts by = acts_append stays acts (by (after_acts stays acts))
joined false stays acts by = refl

-- and the table goes on by it
pub lost_then : {D : Type 0} (kind : WorldKind) (lines : List (List ℕ)) (line : List ℕ) (w v u : Attended D) → Hears (lost_acts kind w.stays lines) w v → Hears (lost_act v.stays (entered_by (meaning kind line))) v u →
    Hears (lost_acts kind w.stays (lines ++ line ∷ [])) w u
lost_then kind lines line w v u one two =
    let acts = lost_acts kind w.stays lines in
    let by : List KeptStay → List Act = λ s. lost_act s (entered_by (meaning kind line)) in
    let more : Bool → List KeptStay → List KeptStay = λ k s. if k then after_acts s (by s) else s in
    record {
      keeps_is = two.keeps_is ∙ one.keeps_is;
      stays_are = λ none.
          let b = two.stays_are none in
          let a = one.stays_are b.0 in (
            a.0,
            b.1 ∙ ap (λ (k : Bool). more k v.stays) one.keeps_is ∙ ap (more w.keeps) a.1 ∙ joined w.keeps w.stays acts by
                ∙ ap (λ (l : List Act). if w.keeps then after_acts w.stays l else w.stays) (sym (lost_more kind w.stays lines line)),
          );
    }

-- bytes up to where a line ends, and up to where the next one does
pub record IsNext (bytes line : List ℕ) (at at' : ℕ) : Type 0 where
  pub inside : at' ≤ length bytes
  pub whole : whole_lines (take at' bytes) ≡ whole_lines (take at bytes) ++ line ∷ []
  pub none : rest_of (take at' bytes) ≡ []

next_line : (bytes : List ℕ) (at end : ℕ) → rest_of (take at bytes) ≡ [] → end < length (drop at bytes) → get_or (drop at bytes) end 0 ≡ 10 → has_no_lf (take end (drop at bytes)) ≡ true → IsNext bytes (take end (drop at bytes)) at (at + (end + 1))
next_line bytes at end none lt lf clean =
    let line = take end (drop at bytes) in
    let few : length (drop at bytes) ≡ length bytes - at = length-drop at bytes in
    let parts : take (at + (end + 1)) bytes ≡ take at bytes ++ (line ++ 10 ∷ []) = take-add at (end + 1) bytes ∙ ap (λ l. take at bytes ++ l) (take_more (drop at bytes) end 0 lt ∙ ap (λ (b : ℕ). line ++ b ∷ []) lf) in
    record {
      inside = omega (arith, few, lt);
      whole = ap (λ l. whole_lines l) parts ∙ whole_append [] (take at bytes) (line ++ 10 ∷ []) ∙ ap (λ l. whole_lines (take at bytes) ++ whole_lines_from l (line ++ 10 ∷ [])) none ∙ ap (λ l. whole_lines (take at bytes) ++ l) (whole_one line clean);
      none = ap (λ l. rest_of l) parts ∙ rest_append [] (take at bytes) (line ++ 10 ∷ []) ∙ ap (λ l. rest_from l (line ++ 10 ∷ [])) none ∙ rest_one line clean;
    }

pub lines_next : (bytes rest : List ℕ) (at end : ℕ) → rest ≡ drop at bytes → rest_of (take at bytes) ≡ [] → IsFirstByte (is_byte 10) rest (Some end) → IsNext bytes (take end rest) at (at + (end + 1))
lines_next bytes rest at end same none = subst (λ (l : List ℕ). IsFirstByte (is_byte 10) l (Some end) → IsNext bytes (take end l) at (at + (end + 1))) (sym same)
    (λ first. next_line bytes at end none first.0.high (eqb-true _ _ first.1) (nowhere-lacks 10 (drop at bytes) end first.0.before))

-- where no LF stands behind, they are all lines
pub lines_all : (bytes rest : List ℕ) (at : ℕ) → rest ≡ drop at bytes → rest_of (take at bytes) ≡ [] → IsFirstByte (is_byte 10) rest None → whole_lines (take at bytes) ≡ whole_lines bytes
lines_all bytes rest at same none nowhere =
    let clean = no_lf_in (drop at bytes) rest same nowhere in
    sym (ap (λ l. whole_lines l) (sym (take-append-drop at bytes)) ∙ whole_append [] (take at bytes) (drop at bytes) ∙ ap (λ l. whole_lines (take at bytes) ++ whole_lines_from l (drop at bytes)) none
    ∙ ap (λ l. whole_lines (take at bytes) ++ l) (whole_none [] (drop at bytes) clean) ∙ append-nil (whole_lines (take at bytes)))

-- whatever became of the service itself
pub lost_whole : {D : Type 0} (w u : Attended D) (d : D) (kind kind' : WorldKind) (bytes bytes' : List ℕ) → kind' ≡ kind → bytes' ≡ bytes → Hears (lost_acts kind' w.stays (whole_lines bytes')) (record w { service = d }) u →
    Hears (lost_acts kind w.stays (whole_lines bytes)) w u
lost_whole w u d kind kind' bytes bytes' kinds same h =
    let on = subst (λ (k : WorldKind). Hears (lost_acts k w.stays (whole_lines bytes)) (record w { service = d }) u) kinds
    (subst (λ (l : List ℕ). Hears (lost_acts kind' w.stays (whole_lines l)) (record w { service = d }) u) same h) in
    record { keeps_is = on.keeps_is; stays_are = on.stays_are }
