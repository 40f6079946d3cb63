use Rattle.std.proofs.Common.{◌≡◌, drop}
use Rattle.model_steps.specs.View.{value_of}
use Rattle.text_checker.proofs.judges.firsts.number_of.Given as goal

-- no pair so far is of this identity
abbrev pub invariant-loop-pair : goal.invariant-loop-pair
invariant-loop-pair l = value_of l.id (drop l.pair-index l.pairs) ≡ value_of l.id l.pairs
