-- what a run of a seat's program says of its name
use Rattle.std.proofs.Common.{◌≡◌, ◌≢◌, ℕ, ◌+◌, ◌*◌, ◌≤◌, Some, sym, ap, ◌∙◌, arith}
use Rattle.model_recursion.specs.declared.namer.Namer.{Namer}
use Rattle.model_recursion.proofs.cited.Tied.{law}
use Rattle.words_machine.specs.SeatViews.{own}
use Rattle.words_machine.specs.Ids.{EndedRun, ClaimId, HasRun, HaveRun, HaveReported}
use Rattle.words_machine.specs.Names.{names_law}
use Rattle.words_names.specs.NameLaw.{NameSpec}
use Rattle.words_names.specs.Seats.{renamed_by}

pub name_law : (e : EndedRun Namer ℕ) → HasRun names_law e → NameSpec (renamed_by e)
name_law e h =
    let l = law e.words.most h.w h.r h.after in
    let w = l.within (own e.number) e.outcome h.outcome_is in
    let high = w.1 in
    let begun = h.entered_are in
    let made = h.accesses_are in
    let few = l.at_most (own e.number) in
    record { counted = h.counted; from = w.0; to = omega arith; at_most = omega arith }

-- two that met have two names
pub distinct_names : (a b : EndedRun Namer ℕ) → HaveRun names_law a b → a.outcome ≢ b.outcome
distinct_names a b both same =
    let l = law a.words.most both.w both.r both.after in
    let one = l.distinct (own a.number) (own b.number) a.outcome both.one (both.other ∙ ap Some (sym same)) in
    both.apart (omega arith)

-- two claims of one name are of one seat
pub one_seat : (a b : ClaimId ℕ) → HaveReported names_law a b → a.outcome ≡ b.outcome → a.number ≡ b.number
one_seat a b reported same =
    let l = law a.words.most reported.w reported.r reported.after in
    let one = l.distinct (own a.number) (own b.number) a.outcome reported.one (reported.other ∙ ap Some (sym same)) in
    omega arith
