use Rattle.std.proofs.Common.{take}
use Rattle.text_checker.proofs.Common.{pool_start, terms_of, HasTaken}
use Rattle.text_checker.proofs.lines.first_fault.Given as goal

abbrev pub invariant-loop-i : goal.invariant-loop-i
invariant-loop-i l = HasTaken (terms_of l.fn.config) (pool_start l.fn.config) (take l.i l.lines) l.checker
