use Rattle.std.proofs.Common.{◌≡◌, ◌++◌, take, drop}
use Rattle.model_steps.specs.View.{inserted}
use Rattle.model_steps.proofs.view.put_in.Given as goal

-- what was put in so far, and what is still to be put among the rest
abbrev pub invariant-loop-i : goal.invariant-loop-i
invariant-loop-i l = record {
  done : take l.i l.pairs ++ inserted (drop l.i (take l.len l.initial.pairs)) l.carried ≡ inserted (take l.len l.initial.pairs) l.fn.pair;
  rest : drop l.i l.pairs ≡ drop l.i l.initial.pairs;
}
