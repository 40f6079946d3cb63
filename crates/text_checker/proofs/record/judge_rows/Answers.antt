use Rattle.std.proofs.Common.{◌≡◌, ℕ, List, [], ◌∷◌, Option, Some, MatchOption, ap, ◌∙◌, subst}
use Rattle.std.proofs.lemmas.Result.{MatchResult-at_ok, MatchResult-at_err}
use Rattle.text_checker.proofs.Common.{option_copied, lines_left}
use Rattle.text_checker.proofs.records.Gathered.{GatheredSoFar, all_gathered, row_gathered, row_here}
use Rattle.text_checker.proofs.records.Rows.{all_rows, no_row}
use Rattle.text_checker.proofs.record.judge_rows.Goals.{in-Some+in_default-next_line, in_default}
use Rattle.text_checker.proofs.record.judge_rows.Goals as goal

pub loop-left-init : goal.loop-left-init
loop-left-init g c = record { so_far = no_row c.args.header _ c.in_ok-checker.checker c.in_ok-checker.ensures; gathered = λ start. start }

pub returns-in-Err-clause-said : goal.returns-in-Err-clause-said
returns-in-Err-clause-said g c =
    let s = row_here (option_copied c.loop-left.left) c.loop-left.invariant (ap (λ o. option_copied o) c.in-Some.is) c.in-Some-next_line.ensures.lines in
    let ends = MatchResult-at_err _ _ _ c.in-Err.is c.in_ok-row.ensures in
    ends.said _ _ s.so_far

pub returns-in-Err-clause-gathered : goal.returns-in-Err-clause-gathered
returns-in-Err-clause-gathered g c = λ yes.
    (let ends = MatchResult-at_err _ _ _ c.in-Err.is c.in_ok-row.ensures in
    absurd (ends.other yes))

pub take-requires : goal.take-requires
take-requires g c = (MatchResult-at_ok _ _ _ c.in-Ok.is c.in_ok-row.ensures).canonical

pub loop-left-preserved : goal.loop-left-preserved
loop-left-preserved g c =
    let s = row_here (option_copied c.loop-left.left) c.loop-left.invariant (ap (λ o. option_copied o) c.in-Some.is) c.in-Some-next_line.ensures.lines in
    row_gathered s (MatchResult-at_ok _ _ _ c.in-Ok.is c.in_ok-row.ensures).takes c.in_ok-take.ensures

pub returns : goal.returns
returns g c =
    let rows = lines_left (option_copied c.args.rows) in
    let none : lines_left (option_copied c.loop-left.left) ≡ [] = elim c.match-left.branch [
      | in-Some+in_default-next_line w ↦ ap (λ (o : Option (List ℕ)). lines_left o) (ap (λ o. option_copied o) w.in-Some.is) ∙ subst (λ o. MatchOption o (lines_left (Some w.in-Some.bytes.now) ≡ []) (λ r. lines_left (Some w.in-Some.bytes.now) ≡ r.0.now ∷ lines_left (option_copied r.1))) w.in_default-next_line.is w.next_line.ensures.lines
      | in_default w ↦ ap (λ (o : Option (List ℕ)). lines_left o) (ap (λ o. option_copied o) w.in_default.is)
    ] in
    let s = subst (λ (left : List (List ℕ)). GatheredSoFar g.G.Gather.is_of c.args.gathered.now c.args.header rows left c.loop-left.checker c.loop-left.number c.loop-left.gathered) none c.loop-left.invariant in
    record { said = all_rows s.so_far; gathered = λ yes start. all_gathered s start }
