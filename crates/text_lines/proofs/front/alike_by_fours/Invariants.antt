use Rattle.std.proofs.Common.{◌-◌, length}
use Rattle.text_lines.specs.Front.{AreAlike}
use Rattle.text_lines.proofs.front.alike_by_fours.Given as goal

abbrev pub invariant-loop-at : goal.invariant-loop-at
invariant-loop-at l = AreAlike l.bytes l.front l.at

abbrev pub decreases-loop-at : goal.decreases-loop-at
decreases-loop-at l = length l.front - l.at
