use Rattle.text_checker.proofs.Common.{option_copied, left_length, lines_left}
use Rattle.text_checker.proofs.records.Gathered.{GatheredSoFar}
use Rattle.text_checker.proofs.record.judge_rows.Given as goal

abbrev pub invariant-loop-left : goal.invariant-loop-left
invariant-loop-left g l = GatheredSoFar g.G.Gather.is_of l.fn.gathered l.header (lines_left (option_copied l.fn.rows)) (lines_left (option_copied l.left)) l.checker l.number l.gathered

abbrev pub decreases-loop-left : goal.decreases-loop-left
decreases-loop-left g l = left_length (option_copied l.left)
