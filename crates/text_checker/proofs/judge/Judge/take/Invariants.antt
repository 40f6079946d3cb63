use Rattle.std.proofs.Common.{ℕ, List, ◌++◌}
use Rattle.text_checker.proofs.Common.{option_copied, left_length, HasTakenAll, HasTakenBut, bytes_left}
use Rattle.text_checker.proofs.judge.Judge.take.Given as goal

abbrev pub invariant-loop-left : goal.invariant-loop-left
invariant-loop-left l = (seen : List ℕ) → HasTakenAll seen l.fn.self → HasTakenBut (bytes_left (option_copied l.left)) (seen ++ l.fn.bytes) l.self

abbrev pub decreases-loop-left : goal.decreases-loop-left
decreases-loop-left l = left_length (option_copied l.left)
