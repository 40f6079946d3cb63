use Rattle.std.proofs.Common.{◌≡◌, ◌≤◌, true, length, drop}
use Rattle.text_lines.specs.Lines.{has_no_lf}
use Rattle.service_journal.proofs.opening.whole_length.Given as goal

abbrev pub invariant-loop-end : goal.invariant-loop-end
invariant-loop-end l = (l.end ≤ length l.bytes) × (has_no_lf (drop l.end l.bytes) ≡ true)

abbrev pub decreases-loop-end : goal.decreases-loop-end
decreases-loop-end l = l.end
