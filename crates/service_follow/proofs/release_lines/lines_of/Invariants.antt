use Rattle.std.proofs.Common.{◌≡◌, ◌++◌, drop}
use Rattle.service_follow.specs.Releases.{lines_of}
use Rattle.service_follow.proofs.release_lines.lines_of.Given as goal

-- the lines so far, and those of the identities that are left, are those of all
abbrev pub invariant-loop-id : goal.invariant-loop-id
invariant-loop-id l = l.lines.items ++ lines_of l.hall (drop l.id-index l.ids) ≡ lines_of l.hall l.ids
