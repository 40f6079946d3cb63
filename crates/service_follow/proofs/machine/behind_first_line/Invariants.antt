use Rattle.std.proofs.Common.{◌≡◌, length}
use Rattle.service_follow.specs.Entries.{behind_first_line}
use Rattle.service_follow.proofs.machine.behind_first_line.Given as goal

-- no line has ended so far
abbrev pub invariant-loop-first : goal.invariant-loop-first
invariant-loop-first l = behind_first_line l.rest ≡ behind_first_line l.entry

abbrev pub decreases-loop-first : goal.decreases-loop-first
decreases-loop-first l = length l.rest
