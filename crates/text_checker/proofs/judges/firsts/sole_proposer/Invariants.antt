use Rattle.std.proofs.Common.{◌≡◌, drop}
use Rattle.text_checker.specs.judges.Firsts.{sole_in}
use Rattle.text_checker.proofs.judges.firsts.sole_proposer.Given as goal

-- nothing so far has the number
abbrev pub invariant-loop-i : goal.invariant-loop-i
invariant-loop-i l = sole_in l.number (drop l.i l.pairs) ≡ sole_in l.number l.pairs
