use Rattle.std.proofs.Common.{◌≡◌, ◌∙◌, ◌++◌, ℕ, List, ap, sym, subst}
use Rattle.service_journal.specs.declared.opening.OpenFault.{OpenFault}
use Rattle.service_journal.specs.OpenFaults.{IsFaultOf}
use Rattle.service_journal.proofs.FaultLemmas.{ends_replay, on_err}
use Rattle.service_journal.proofs.opening.replayed.Goals as goal

pub returns-in_default-after_front-clause-errors : goal.returns-in_default-after_front-clause-errors
returns-in_default-after_front-clause-errors c = record {
  yes = c.in-Yes.ensures;
  other = λ rest is. c.in_default-after_front.ensures.none rest (is ∙ ap (λ (l : List ℕ). l ++ rest) (sym c.requires));
}

pub returns-in_err-replay-clause-errors : goal.returns-in_err-replay-clause-errors
returns-in_err-replay-clause-errors c =
    let why = c.in_err-replay.field-0.0 in
    let rest = c.in-Some.lines.now in
    let so = ends_replay c.args.config c.args.whole.now why (record { yes = c.in-Yes.ensures; rest = rest; is = c.in-Some.ensures.rest ∙ ap (λ (l : List ℕ). l ++ rest) c.requires }) c.in_err-replay.ensures.errors in
    on_err (λ f. f ≡ why) _ c.from_residual-in_err-replay.result c.from_residual-in_err-replay.ensures.1 (λ e is. subst (λ (f : OpenFault). IsFaultOf c.args.config c.args.whole.now f) (sym is) so)
