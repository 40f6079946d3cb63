-- who holds numbers in the hall whose record was read
use Rattle.std.proofs.Common.{◌≡◌, ◌∙◌, ◌++◌, ◌+◌, ap, append_assoc, arith, zero, suc, ℕ, List, Option, Some, None, IfSome, Result, Ok, Err, OnOk, sym, subst}
use Rattle.std.proofs.Common.{add-zero, append-nil}
use Rattle.std.specs.Io.KnownBytes.{Appends}
use Rattle.model_pool.specs.slots.SlotsState.{SlotsState}
use Rattle.text_worlds.specs.desk.Held.{slots_of}
use Rattle.service_hall.specs.HallState.{HallState}
use Rattle.service_hall.specs.Halls.{desk_of}
use Rattle.text_lines.specs.held.Held.{all_held, line_of_number, lines_behind}
use Rattle.service_host.specs.Holders.{IsOfHall, TellsHolders}

-- what was read is the hall's record, where it is known what was read
read_of : (h : HallState) (items : List ℕ) (remaining : Option (List ℕ)) → IfSome remaining (λ xs. items ≡ xs) → IsOfHall h items → IfSome remaining (IsOfHall h)
read_of h items None read is = tt
read_of h items (Some xs) read is = subst (IsOfHall h) read is

pub reported_of : {T E : Type 0} (h : HallState) (items : List ℕ) (remaining before now : Option (List ℕ)) (r : Result T E) → IfSome remaining (λ xs. items ≡ xs) → IsOfHall h items
    → OnOk r (Appends before now (all_held (slots_of (desk_of h)))) → OnOk r (TellsHolders remaining before now)
reported_of h items remaining before now (Ok done) read is reported = record { hall = h; recorded = read_of h items remaining read is; reported = reported }
reported_of h items remaining before now (Err why) read is reported = tt

-- the lines of more numbers are those of some, and of the others behind these
pub lines_on : (s : SlotsState ℕ) (before a b : ℕ) → lines_behind s before (a + b) ≡ lines_behind s before a ++ lines_behind s (before + a) b
lines_on s before a zero = ap (lines_behind s before) (add-zero a) ∙ sym (append-nil (lines_behind s before a))
lines_on s before a (suc b) =
    let at : before + (a + b) ≡ before + a + b = omega arith in
    ap (lines_behind s before) (let e : a + suc b ≡ suc (a + b) = omega arith in e)
    ∙ (ap (λ (l : List ℕ). l ++ line_of_number s (before + (a + b))) (lines_on s before a b)
    ∙ (ap (λ (n : ℕ). (lines_behind s before a ++ lines_behind s (before + a) b) ++ line_of_number s n) at
    ∙ append_assoc (lines_behind s before a) (lines_behind s (before + a) b) (line_of_number s (before + a + b))))
