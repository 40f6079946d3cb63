use Rattle.std.proofs.Common.{◌∙◌, ◌++◌, ℕ, List, flat_map, ap, sym, subst}
use Rattle.text_checker.specs.declared.verdict.Verdict.TheVariants.{Yes}
use Rattle.text_checker.specs.Verdict.{IsVerdict}
use Rattle.service_journal.proofs.Common.{Config, exchange_line, header_line}
use Rattle.service_journal.proofs.opening.recovered.Goals as goal

pub returns-then-contains-clause-errors : goal.returns-then-contains-clause-errors
returns-then-contains-clause-errors c =
    let whole = c.whole_length-end.ensures.whole in
    let hall = c.in_ok-hall.ensures.hall in
    let rest = flat_map exchange_line c.in_ok-hall.hall.history in
    record {
      yes = subst (λ (l : List ℕ). IsVerdict l Yes) whole c.in_ok-hall.ensures.yes;
      rest = rest;
      is = sym whole ∙ hall.1 ∙ ap (λ (k : Config). header_line k ++ rest) hall.0;
    }
