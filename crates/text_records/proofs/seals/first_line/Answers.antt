use Rattle.std.proofs.Common.{◌≡◌, ◌∷◌, ◌++◌, ◌+◌, ◌≤◌, List, ℕ, Option, Some, None, length, ap, sym, subst, ◌∙◌, arith}
use Rattle.text_lines.specs.Lines.{left_length, pieces_left, rest_of, with_ends}
use Rattle.text_records.proofs.Common.{option_copied}
use Rattle.text_records.proofs.SealLemmas.{line_first, line_last}
use Rattle.text_records.proofs.seals.first_line.Goals as goal

pub returns-in_default-Some-clause-some : goal.returns-in_default-Some-clause-some
returns-in_default-Some-clause-some c =
    let line = c.cut.result.0.now in
    let rest = c.in_default-Some.rest.now in
    let some = ap option_copied c.in_default-Some.is-1 in
    let first = line_first c.args.text.now line rest (c.cut.ensures.pieces ∙ ap (λ (o : Option (List ℕ)). line ∷ pieces_left 10 o) some) in
    let short : length rest + 1 ≤ length c.args.text.now = subst (λ (o : Option (List ℕ)). left_length o ≤ length c.args.text.now) some c.cut.ensures.shorter in
    rw c.in_default-Some.rest-is (record { lines = first.0; rest = first.1; shorter = omega (arith, short) })

pub returns-in_default-None-clause-none : goal.returns-in_default-None-clause-none
returns-in_default-None-clause-none c =
    let line = c.cut.result.0.now in
    let last = line_last c.args.text.now line (c.cut.ensures.pieces ∙ ap (λ (o : Option (List ℕ)). line ∷ pieces_left 10 o) (ap option_copied c.in_default-None.is-1)) in
    (last.0, ap (λ (ls : List (List ℕ)). with_ends ls ++ rest_of c.args.text.now) (sym last.0) ∙ (c.law_of_lines.ensures.cut c.args.text.now).joined)
