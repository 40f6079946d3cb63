use Rattle.std.proofs.Common.{drop}
use Rattle.model_steps.specs.View.{IsRising}
use Rattle.text_checker.proofs.judges.names.is_rising.Given as goal

-- those so far rise if the rest does
abbrev pub invariant-loop-i : goal.invariant-loop-i
invariant-loop-i l = record {
  rest : IsRising l.pairs → IsRising (drop l.i l.pairs);
  all : IsRising (drop l.i l.pairs) → IsRising l.pairs;
}
