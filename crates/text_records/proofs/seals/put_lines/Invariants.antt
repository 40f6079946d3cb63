use Rattle.std.proofs.Common.{◌≡◌, ◌++◌, length}
use Rattle.text_lines.specs.Lines.{rest_of}
use Rattle.text_records.specs.Seals.{lines_in}
use Rattle.text_records.proofs.seals.put_lines.Given as goal

abbrev pub invariant-loop-line : goal.invariant-loop-line
invariant-loop-line l = (l.out ++ lines_in l.form l.left ≡ l.fn.out ++ lines_in l.form l.fn.text) × (rest_of l.left ≡ rest_of l.fn.text)

abbrev pub decreases-loop-line : goal.decreases-loop-line
decreases-loop-line l = length l.left
