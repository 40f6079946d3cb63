use Rattle.std.proofs.Common.{◌≡◌}
use Rattle.model_steps.proofs.cited.ViewLemmas.{IsAhead}
use Rattle.model_steps.proofs.view.replace_in.Given as goal

-- nothing was changed so far, and the pair to replace is further on
abbrev pub invariant-loop-i : goal.invariant-loop-i
invariant-loop-i l = record {
  same : l.pairs ≡ l.initial.pairs;
  ahead : IsAhead l.i l.initial.pairs l.fn.pair;
}
