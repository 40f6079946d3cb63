use Rattle.std.proofs.Common.{◌≡◌, drop}
use Rattle.model_steps.specs.View.{value_of}
use Rattle.model_steps.proofs.view.find_in.Given as goal

-- the identity was not met so far
abbrev pub invariant-loop-pair : goal.invariant-loop-pair
invariant-loop-pair l = value_of l.identity l.pairs ≡ value_of l.identity (drop l.pair-index l.pairs)
