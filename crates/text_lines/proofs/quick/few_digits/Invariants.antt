use Rattle.std.proofs.Common.{◌-◌, ◌≤◌}
use Rattle.text_lines.specs.Digits.{DigitsSoFar}
use Rattle.text_lines.specs.declared.quick.TheConstants.{SURE_DIGITS}
use Rattle.text_lines.proofs.quick.few_digits.Given as goal

abbrev pub invariant-loop-at : goal.invariant-loop-at
invariant-loop-at l = record {
  read : DigitsSoFar l.text l.value l.at;
  sure : l.at ≤ SURE_DIGITS;
}

abbrev pub decreases-loop-at : goal.decreases-loop-at
decreases-loop-at l = l.most - l.at
